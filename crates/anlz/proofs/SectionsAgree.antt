-- Rule 14.16: two files of one length that agree on the envelopes have the same sections (`sections_agree`), and so the same first
-- section with a code (`first_agree`). Files that agree on bytes of a section have tags that do
-- (`tag_bytes_agree`), also of several sections (`first_tag_agree`, `rest_tags_agree`); and where bytes of a tag are among others, so are those
-- of the file (`tag_among`, `tags_among`). Rests on what stands at a place (StepsEnough) and on numbers that agree (crate number).
use mathlib.Core.Path.{◌≡◌, refl, sym, ◌∙◌}
use mathlib.Core.Bool.{Bool, true}
use mathlib.Core.List.{List, [], ◌∷◌}
use Prim.Native.Nat.{ℕ, zero, suc, ◌+◌, ◌-◌, ◌≤◌}
use native.Mathlib.Omega.{arith}
use lib.ListN.{length}
use Rattle.lists.specs.Alias.{Bytes}
use Rattle.lists.proofs.Choice.{on, or_left, or_right}
use Rattle.number.specs.Number.{be32}
use Rattle.number.specs.Agree.{Agree, within}
use Rattle.number.proofs.NumberAgree.{within_less, agree_less, be32_agree, in_part_agree, in_part_among}
use Rattle.anlz.specs.declared.Section.{Section}
use Rattle.anlz.specs.Header.{envelope, header_holds, len_header}
use Rattle.anlz.specs.Section.{section_holds, section_at, len_tag, tag_of}
use Rattle.anlz.specs.Sections.{sections_from, first_place, sections}
use Rattle.anlz.specs.First.{first_section}
use Rattle.anlz.specs.Bytes.{envelope_from, envelope_byte, in_tag, in_tags}
use Rattle.anlz.proofs.StepsEnough.{at_place, from_end, from_broken, from_found}

-- what an envelope says
module _ {s t : Bytes} (place : ℕ) (a : Agree (within place envelope) s t) where
  field_agree : (at : ℕ) → place ≤ at → at + 4 ≤ place + envelope → be32 s at ≡ be32 t at
  field_agree at h k = be32_agree at (agree_less (λ i e. within_less at 4 place envelope i h k e) a)

  tag_agree : len_tag s place ≡ len_tag t place
  tag_agree = field_agree (place + 0x08) (omega arith) (omega arith)

  holds_agree : section_holds s place ≡ section_holds t place
  unfolding section_holds
  holds_agree = rw (field_agree (place + 0x04) (omega arith) (omega arith), tag_agree, a.long)

  section_agree : section_at s place ≡ section_at t place
  section_agree = rw (field_agree place (omega arith) (omega arith), tag_agree)

module _ {s t : Bytes} (a : Agree (within 0 envelope) s t) where
  start_agree : len_header s ≡ len_header t
  start_agree = field_agree 0 a 0x04 (omega arith) (omega arith)

  header_agree : header_holds s ≡ header_holds t
  unfolding header_holds
  header_agree = rw (field_agree 0 a 0x00 (omega arith) (omega arith), start_agree, field_agree 0 a 0x08 (omega arith) (omega arith), a.long)

-- the sections from a place on
from_agree : {s t : Bytes} (left place : ℕ) → Agree (envelope_from left s place) s t → sections_from left s place ≡ sections_from left t place
unfolding envelope_from sections_from
from_agree zero place a = refl
from_agree {s} {t} (suc left) place a =
    let here : Agree (within place envelope) s t = agree_less (λ i e. or_left _ e) a in
    let holds = holds_agree place here in
    at_place s place
    (λ e. from_end s (suc left) place e ∙ sym (from_end t (suc left) place (e ∙ a.long)))
    (λ n e. from_broken s left place n e ∙ sym (from_broken t left place (λ q. n (q ∙ sym a.long)) (sym holds ∙ e)))
    (λ e.
    let rest = from_agree left (place + len_tag s place) (agree_less (λ i h. or_right (within place envelope i) (rw e h)) a) in
    from_found s left place e ∙ rw (rest, section_agree place here, tag_agree place here) (sym (from_found t left place (sym holds ∙ e))))

module _ {s t : Bytes} (a : Agree (envelope_byte s) s t) where
  header_bytes : Agree (within 0 envelope) s t
  unfolding envelope_byte
  header_bytes = agree_less (λ i e. or_left _ e) a

  pub sections_agree : sections s ≡ sections t
  unfolding sections first_place envelope_byte
  sections_agree =
      on (header_holds s)
      (λ h.
      let all = from_agree (length s - len_header s) (len_header s) (agree_less (λ i e. or_right (within 0 envelope i) (rw h e)) a) in
      rw (← header_agree header_bytes, h, all, ← a.long, ← start_agree header_bytes))
      (λ h. rw (← header_agree header_bytes, h))

  pub first_agree : (code : ℕ) → first_section s code ≡ first_section t code
  unfolding first_section
  first_agree code = rw sections_agree

pub tag_bytes_agree : (test : Bytes → ℕ → Bool) {s t : Bytes} (section : Section) → Agree (in_tag test s section) s t
    → Agree (test (tag_of s section)) (tag_of s section) (tag_of t section)
tag_bytes_agree test {s} section a = in_part_agree (test (tag_of s section)) section.place (section.end - section.place) a

-- of several sections: the first, and the others
module _ (test : Bytes → ℕ → Bool) {s t : Bytes} (section : Section) (rest : List Section) (a : Agree (in_tags test s (section ∷ rest)) s t) where
  pub first_tag_agree : Agree (test (tag_of s section)) (tag_of s section) (tag_of t section)
  unfolding in_tags
  first_tag_agree = tag_bytes_agree test section (agree_less (λ i e. or_left _ e) a)

  pub rest_tags_agree : Agree (in_tags test s rest) s t
  unfolding in_tags
  rest_tags_agree = agree_less (λ i e. or_right (in_tag test s section i) e) a

module _ (fewer more : Bytes → ℕ → Bool) (among : (tag : Bytes) (i : ℕ) → fewer tag i ≡ true → more tag i ≡ true) (file : Bytes) where
  pub tag_among : (section : Section) (i : ℕ) → in_tag fewer file section i ≡ true → in_tag more file section i ≡ true
  tag_among section i e =
      in_part_among (fewer (tag_of file section)) (more (tag_of file section)) section.place (section.end - section.place) i
      (among (tag_of file section) (i - section.place)) e

  pub tags_among : (these : List Section) (i : ℕ) → in_tags fewer file these i ≡ true → in_tags more file these i ≡ true
  unfolding in_tags
  tags_among [] i e = e
  tags_among (section ∷ rest) i e =
      on (in_tag fewer file section i)
      (λ h. or_left _ (tag_among section i h))
      (λ h. or_right (in_tag more file section i) (tags_among rest i (rw h at e)))
