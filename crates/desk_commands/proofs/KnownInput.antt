-- The commands of known bytes (specs/Reading), one after the other, from what the reads of a turn consumed.
--     some_enough    more commands than bytes are all of them
--     reads_whole    a turn that ran a command
--     reads_nothing    no byte was left
--     ok_both, one_byte    what two clauses say of an answer; the one byte of a kind
--     turn_ends, turn_follows    a turn, from what its reads consumed
--     leads_start, leads_on, leads_end, leads_out    the loop of `run`: its first turn, a further one, the last, and where its turns are used up
--     ran_all, ran_out    the run, where a turn ended it, and where its turns are used up
use mathlib.Core.Path.{◌≡◌, refl, sym, ap, ◌∙◌}
use mathlib.Core.List.{[], ◌∷◌, ◌++◌}
use mathlib.Core.Logic.{⊎_elim}
use Prim.Native.Nat.{ℕ, zero, suc, ◌+◌, ◌≤◌, ◌<◌}
use native.Mathlib.Omega.{arith}
use lib.ListN.{length, take, drop, length-drop}
use lib.Dec.{ltb}
use borrow.Author.Tests.{ltb-true, ltb-false}
use Rattle.std.proofs.Common.{None, Some, IfSome, Result, Ok, Err, IfOk, get_or, subst}
use Rattle.std.proofs.lemmas.List.{take_all, append-nil, nil_from_length}
use Rattle.std.proofs.Math.Seq.{take-append_seam, drop-append_seam}
use Rattle.std.proofs.Math.ListN.{drop_of_length-le}
use Rattle.std.specs.Io.KnownBytes.{Consumes, IsAtEnd}
use Rattle.std.specs.declared.option.Option.{Option}
use Rattle.lists.proofs.Choice.{on}
use Rattle.lists.specs.Alias.{Bytes, Words, Places}
use Rattle.desk_steps.specs.Command.{Command, Input, whole, unknown, cut, body_size, decoded}
use Rattle.desk_steps.specs.State.{State, state}
use Rattle.desk_steps.specs.Step.{step}
use Rattle.intake.specs.declared.Intake.{Intake}
use Rattle.desk_commands.specs.Run.{command_bytes, after_bytes}
use Rattle.desk_commands.specs.Reading.{then_later, after_some, after_reading, RanAll}
use Rattle.desk_commands.specs.Private.{Follows, Leads, LeadsTo, Turned}

then_same : (first : Input) (s : State) (f g : State → State) → ((t : State) → f t ≡ g t) → then_later first s f ≡ then_later first s g
then_same (whole command) s f g e = e (step s command).after
then_same unknown s f g e = refl
then_same cut s f g e = refl

pub some_enough : (n m : ℕ) (s : State) (xs : Bytes) → length xs ≤ n → length xs ≤ m → after_some n s xs ≡ after_some m s xs
unfolding after_some
some_enough zero zero s xs h k = refl
some_enough zero (suc m) s [] h k = refl
some_enough zero (suc m) s (kind ∷ rest) h k = absurd (omega (arith, h))
some_enough (suc n) zero s [] h k = refl
some_enough (suc n) zero s (kind ∷ rest) h k = absurd (omega (arith, k))
some_enough (suc n) (suc m) s [] h k = refl
some_enough (suc n) (suc m) s (kind ∷ rest) h k =
    then_same (decoded kind (take (body_size kind) rest)) s _ _
    (λ t. some_enough n m t (drop (body_size kind) rest)
    (omega (arith, h, length-drop (body_size kind) rest)) (omega (arith, k, length-drop (body_size kind) rest)))

module _ (s : State) (kind : ℕ) (rest : Bytes) where
  pub reads_whole : (command : Command) → decoded kind (take (body_size kind) rest) ≡ whole command
      → after_reading s (kind ∷ rest) ≡ after_reading (step s command).after (drop (body_size kind) rest)
  unfolding after_some
  reads_whole command e =
      rw e (some_enough (length rest) (length (drop (body_size kind) rest)) (step s command).after (drop (body_size kind) rest)
      (omega (arith, length-drop (body_size kind) rest)) (omega arith))

  pub reads_unknown : decoded kind (take (body_size kind) rest) ≡ unknown → after_reading s (kind ∷ rest) ≡ s
  unfolding after_some
  reads_unknown e = rw e

  pub reads_cut : decoded kind (take (body_size kind) rest) ≡ cut → after_reading s (kind ∷ rest) ≡ s
  unfolding after_some
  reads_cut e = rw e

pub reads_nothing : (s : State) → after_reading s [] ≡ s
unfolding after_some
reads_nothing s = refl

-- a body, read as far as there is one, and what is left behind it
module _ (size : ℕ) (body ys zs : Bytes) (e : ys ≡ body ++ zs) (few : length body ≤ size) (last : length body < size → zs ≡ []) where
  body_read : (take size ys ≡ body) × (drop size ys ≡ zs)
  body_read =
      on (ltb (length body) size)
      (λ l.
      let none = last (ltb-true (length body) size l) in
      let all : ys ≡ body = e ∙ ap (λ r. body ++ r) none ∙ append-nil body in
      let short : length ys ≤ size = omega (arith, ap length all, few) in
      (take_all size ys short ∙ all, drop_of_length-le ys short ∙ sym none))
      (λ l.
      let same : length body ≡ size = omega (arith, few, ltb-false (length body) size l) in (
        ap (take size) e ∙ subst (λ n. take n (body ++ zs) ≡ body) same (take-append_seam body zs),
        ap (drop size) e ∙ subst (λ n. drop n (body ++ zs) ≡ zs) same (drop-append_seam body zs),
      ))

-- the input was at its end
pub turn_ends : (s : State) (a b : Option Bytes) (n : ℕ) (kinds : Bytes) → n < 1 → Consumes a b (take n kinds) → IsAtEnd b → LeadsTo s s a
turn_ends s None b n kinds l p end = tt
turn_ends s (Some xs) None n kinds l p end = absurd p
turn_ends s (Some xs) (Some ys) zero kinds l p end = subst (λ z. after_reading s z ≡ s) (sym (p ∙ end)) (reads_nothing s)
turn_ends s (Some xs) (Some ys) (suc n) kinds l p end = absurd (omega (arith, l))

module _ (s now : State) (after : Option Intake) (kind : ℕ) (body : Bytes) (e : now ≡ after_bytes s (command_bytes kind body)) where
  turn_reads : (ys zs : Bytes) → Follows after (decoded kind body) → take (body_size kind) ys ≡ body → drop (body_size kind) ys ≡ zs
      → Turned after s now (Some (kind ∷ ys)) (Some zs)
  turn_reads ys zs f p q = by after f
    where
      by : (x : Option Intake) → Follows x (decoded kind body) → Turned x s now (Some (kind ∷ ys)) (Some zs)
      by (Some intake) (command, w) =
          let now_is : now ≡ (step s command).after = rw w at e in (
            omega (arith, ap length q, length-drop (body_size kind) ys),
            reads_whole s kind ys command (rw p w) ∙ rw (q, now_is),
          )
      by None g =
          ⊎_elim
          (λ u. reads_unknown s kind ys (rw p u) ∙ sym (rw u at e))
          (λ u. reads_cut s kind ys (rw p u) ∙ sym (rw u at e))
          g

  pub turn_follows : (a b c : Option Bytes) (kinds : Bytes) → kinds ≡ kind ∷ [] → Consumes a b kinds → Consumes b c body
      → length body ≤ body_size kind → (length body < body_size kind → IsAtEnd c) → Follows after (decoded kind body) → Turned after s now a c
  turn_follows None b c kinds k p q few last f = by after
    where
      by : (x : Option Intake) → Turned x s now None c
      by (Some intake) = tt
      by None = tt
  turn_follows (Some xs) None c kinds k p q few last f = absurd p
  turn_follows (Some xs) (Some ys) None kinds k p q few last f = absurd q
  turn_follows (Some xs) (Some ys) (Some zs) kinds k p q few last f =
      let read = body_read (body_size kind) body ys zs q few last in
      let all : xs ≡ kind ∷ ys = p ∙ ap (λ l. l ++ ys) k in
      subst (λ l. Turned after s now (Some l) (Some zs)) (sym all) (turn_reads ys zs f read.0 read.1)

pub leads_start : (s : State) (a : Option Bytes) → Leads s s 0 a a
leads_start s None = tt
leads_start s (Some xs) = (omega arith, refl)

pub leads_on : (s t u : State) (n : ℕ) (a b c : Option Bytes) → Leads s t n a b → Leads t u 1 b c → Leads s u (n + 1) a c
leads_on s t u n None b c p q = tt
leads_on s t u n (Some xs) None c p q = absurd p
leads_on s t u n (Some xs) (Some ys) None p q = absurd q
leads_on s t u n (Some xs) (Some ys) (Some zs) p q = (omega (arith, p.0, q.0), p.1 ∙ q.1)

pub leads_end : (s t u : State) (n : ℕ) (a b : Option Bytes) → Leads s t n a b → LeadsTo t u b → LeadsTo s u a
leads_end s t u n None b p q = tt
leads_end s t u n (Some xs) None p q = absurd p
leads_end s t u n (Some xs) (Some ys) p q = p.1 ∙ q

pub leads_out : (s t : State) (n : ℕ) (a b : Option Bytes) → Leads s t n a b → IfSome a (λ xs. length xs ≤ n → after_reading s xs ≡ t)
leads_out s t n None b p = tt
leads_out s t n (Some xs) None p = absurd p
leads_out s t n (Some xs) (Some ys) p = λ h. p.1 ∙ subst (λ l. after_reading t l ≡ t) (sym (nil_from_length ys (omega (arith, p.0, h)))) (reads_nothing t)

module _ (image after : Bytes) (map map_after : Words) (list list_after : Places) (len : ℕ) where
  pub ran_all : (a : Option Bytes) (most : ℕ) → LeadsTo (state 0 image map list) (state len after map_after list_after) a
      → IfSome a (λ xs. length xs < most → RanAll xs image after map map_after list list_after)
  ran_all None most p = tt
  ran_all (Some xs) most p = λ h. record { len = len; is = sym p }

  pub ran_out : (a b : Option Bytes) (n most : ℕ) → most ≤ n + 1 → Leads (state 0 image map list) (state len after map_after list_after) n a b
      → IfSome a (λ xs. length xs < most → RanAll xs image after map map_after list list_after)
  ran_out None b n most l p = tt
  ran_out (Some xs) None n most l p = absurd p
  ran_out (Some xs) (Some ys) n most l p = λ h. record { len = len; is = sym (leads_out (state 0 image map list) _ n (Some xs) (Some ys) p (omega (arith, l, h))) }

pub ok_both : {A E : Type 0} (r : Result A E) (P Q S : A → Type 0) → IfOk r P → IfOk r Q → ((x : A) → P x → Q x → S x) → IfOk r S
ok_both (Ok x) P Q S p q f = f x p q
ok_both (Err e) P Q S p q f = tt

pub one_byte : (n : ℕ) (xs : Bytes) → length xs ≡ 1 → 1 ≤ n → take n xs ≡ get_or xs 0 0 ∷ []
one_byte n [] l h = absurd (omega (arith, l))
one_byte zero (x ∷ []) l h = absurd (omega (arith, h))
one_byte (suc n) (x ∷ []) l h = take_all (suc n) (x ∷ []) (omega arith)
one_byte n (x ∷ y ∷ xs) l h = absurd (omega (arith, l))
