-- A reply to an answer is a reply to the definition that the answer equals (rule 13.2).
use mathlib.Core.Path.{◌≡◌, subst}
use mathlib.Core.List.{List}
use Prim.Native.Nat.{ℕ}
use Rattle.c_reply.specs.Reply.{Reply, Replied}

pub replied : {A : Type 0} (f : A → Reply) (before : List ℕ) {answer asked : A} {r : ℕ} {after : List ℕ} → answer ≡ asked
    → Replied (f answer) r before after → Replied (f asked) r before after
replied f before {r = r} {after} e told = subst (λ x. Replied (f x) r before after) e told
