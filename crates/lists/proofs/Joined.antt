-- Lists of numbers, one for each x of some type, joined one behind the other. Each has a key, and lists with a number in common have one key.
--     joined_holds       what holds of the numbers of each list holds of those of the joined one
--     joined_distinct    where each list's numbers differ, those of lists with different keys all do
use mathlib.Core.Path.{◌≡◌, sym, subst, ◌∙◌}
use mathlib.Core.Bool.{true, false, false≢true}
use mathlib.Core.List.{List, [], ◌∷◌, ◌++◌, map}
use mathlib.Core.Logic.{⊎_elim}
use Prim.Native.Nat.{ℕ}
use Rattle.lists.specs.Member.{is_member}
use Rattle.lists.specs.Distinct.{Distinct}
use Rattle.lists.proofs.Choice.{never}
use Rattle.lists.proofs.Member.{member_first, no_member, fewer_members, append_cases, distinct_append}

module _ {X : Type 0} (list : X → List ℕ) where
  abbrev pub joined : List X → List ℕ
  joined [] = []
  joined (x ∷ xs) = list x ++ joined xs

  pub joined_holds : (P : ℕ → Type 0) → ((x : X) (n : ℕ) → is_member n (list x) ≡ true → P n) → (xs : List X) (n : ℕ) → is_member n (joined xs) ≡ true → P n
  unfolding is_member
  joined_holds P each [] n m = never (cc)
  joined_holds P each (x ∷ xs) n m = ⊎_elim (each x n) (joined_holds P each xs n) (append_cases n (list x) (joined xs) m)

  module _ (key : X → ℕ) (different : (x : X) → Distinct (list x))
      (apart : (x y : X) (n : ℕ) → is_member n (list x) ≡ true → is_member n (list y) ≡ true → key x ≡ key y) where
    -- a number of a list stands in no list of another key
    elsewhere : (x : X) (xs : List X) → is_member (key x) (map key xs) ≡ false → (n : ℕ) → is_member n (list x) ≡ true → is_member n (joined xs) ≡ true → ⊥
    unfolding is_member
    elsewhere x [] f n m e = never (cc)
    elsewhere x (y ∷ xs) f n m e =
        let keys = map key xs in
        ⊎_elim
        (λ l. false≢true (sym f ∙ subst (λ (k : ℕ). is_member k (key y ∷ keys) ≡ true) (sym (apart x y n m l)) (member_first (key y) keys)))
        (λ r. elsewhere x xs (fewer_members (key x) (key y) keys f) n m r)
        (append_cases n (list y) (joined xs) e)

    pub joined_distinct : (xs : List X) → Distinct (map key xs) → Distinct (joined xs)
    joined_distinct [] d = tt
    joined_distinct (x ∷ xs) d =
        distinct_append (list x) (joined xs) (different x) (joined_distinct xs d.1)
        (λ n m. no_member n (joined xs) (elsewhere x xs d.0 n m))
