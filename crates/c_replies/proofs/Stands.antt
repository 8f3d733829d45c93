-- A reply to a result of the code is a reply to the definition that the result stands for.
--     told           of a result whose good value stands for itself by value
--     found_told     of what a question found, or Waiting
use Rattle.std.specs.Prelude.{◌≡◌, refl, Result, Ok, Err, List, ℕ}
use Rattle.std.proofs.Common.{subst}
use Rattle.refusal.specs.declared.Refusal.{Refusal}
use Rattle.refusal.specs.Answer.{Answer, answer_of, answer_as}
use Rattle.chain.specs.declared.Reply as code
use Rattle.chain.specs.Found.{Found, reply_of}
use Rattle.c_reply.specs.Reply.{Reply, reply_to, Replied}
use Rattle.c_reply.proofs.ReplyCarriesOver.{replied}
use Rattle.c_replies.specs.Replies.{found_reply}

reply_stands : {A B : Type 0} (says : B → Reply) (value : A → B) (res : Result A Refusal)
    → reply_to (λ (x : A). says (value x)) (answer_of res) ≡ reply_to says (answer_as value res)
reply_stands says value (Ok x) = refl
reply_stands says value (Err refusal) = refl

pub told : {A B : Type 0} (says : B → Reply) (value : A → B) (res : Result A Refusal) (before : List ℕ) {asked : Answer B} {r : ℕ} {after : List ℕ}
    → answer_as value res ≡ asked → Replied (reply_to (λ (x : A). says (value x)) (answer_of res)) r before after → Replied (reply_to says asked) r before after
told says value res before {r = r} {after} e t =
    replied (reply_to says) before e (subst (λ (x : Reply). Replied x r before after) (reply_stands says value res) t)

-- the reply to what was found, by the values of the code's type
abbrev pub FoundReply : {A B : Type 0} (values : B → List ℕ) (value : A → B) → code.Reply A → Reply
FoundReply values value found = found_reply (λ x. values (value x)) (reply_of (λ x. x) found)

found_stands : {A B : Type 0} (values : B → List ℕ) (value : A → B) (res : Result (code.Reply A) Refusal)
    → reply_to (FoundReply values value) (answer_of res) ≡ reply_to (found_reply values) (answer_as (reply_of value) res)
found_stands values value (Ok (code.TheVariants.Found x)) = refl
found_stands values value (Ok (code.TheVariants.Waiting page rows pages)) = refl
found_stands values value (Err refusal) = refl

pub found_told : {A B : Type 0} (values : B → List ℕ) (value : A → B) (res : Result (code.Reply A) Refusal) (before : List ℕ) {asked : Answer (Found B)}
    {r : ℕ} {after : List ℕ} → answer_as (reply_of value) res ≡ asked → Replied (reply_to (FoundReply values value) (answer_of res)) r before after
    → Replied (reply_to (found_reply values) asked) r before after
found_told values value res before {r = r} {after} e t =
    replied (reply_to (found_reply values)) before e (subst (λ (x : Reply). Replied x r before after) (found_stands values value res) t)
