-- A table and its number name each other: rules 1.1 and 2.8.
--     table-number     a number that names a table is that table's
--     same_number      tables of one number are one table
use mathlib.Core.Path.{◌≡◌, refl, sym, ap, subst, ◌∙◌}
use Prim.Native.Nat.{ℕ}
use lib.Dec.{eqb}
use borrow.Author.Tests.{eqb-true}
use Rattle.refusal.specs.Answer.{Answer, given, refused}
use Rattle.lists.proofs.Choice.{cond_holds}
use Rattle.table.specs.declared.Table.{Table}
use Rattle.table.specs.declared.Table.TheVariants.{Tracks, Genres, Artists, Albums, Labels, Keys, Colors, PlaylistTree, PlaylistEntries, Artwork}
use Rattle.table.specs.Table.{table_number, table_of}

-- the number is that of the table that it names
abbrev Named : ℕ → Answer Table → Type 0
Named n (given table) = n ≡ table_number table
Named n (refused f) = Unit {0}

named : (n : ℕ) → Named n (table_of n)
unfolding table_of
named n =
    cond_holds (Named n) (eqb n 0) (eqb-true n 0) (λ _.
    cond_holds (Named n) (eqb n 1) (eqb-true n 1) (λ _.
    cond_holds (Named n) (eqb n 2) (eqb-true n 2) (λ _.
    cond_holds (Named n) (eqb n 3) (eqb-true n 3) (λ _.
    cond_holds (Named n) (eqb n 4) (eqb-true n 4) (λ _.
    cond_holds (Named n) (eqb n 5) (eqb-true n 5) (λ _.
    cond_holds (Named n) (eqb n 6) (eqb-true n 6) (λ _.
    cond_holds (Named n) (eqb n 7) (eqb-true n 7) (λ _.
    cond_holds (Named n) (eqb n 8) (eqb-true n 8) (λ _.
    cond_holds (Named n) (eqb n 13) (eqb-true n 13) (λ _. tt))))))))))

pub table-number : (n : ℕ) (table : Table) → table_of n ≡ given table → n ≡ table_number table
table-number n table e = subst (Named n) e (named n)

number_table : (table : Table) → table_of (table_number table) ≡ given table
unfolding table_of
number_table Tracks = refl
number_table Genres = refl
number_table Artists = refl
number_table Albums = refl
number_table Labels = refl
number_table Keys = refl
number_table Colors = refl
number_table PlaylistTree = refl
number_table PlaylistEntries = refl
number_table Artwork = refl

pub same_number : (a b : Table) → table_number a ≡ table_number b → a ≡ b
same_number a b e =
    let both : given a ≡ given b = sym (number_table a) ∙ ap table_of e ∙ number_table b in
    cc
