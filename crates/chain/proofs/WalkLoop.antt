-- The loop of `walk_chain`: its invariant, and what each way out answers. The code keeps no list of the pages met: it counts pages, and
-- keeps one of them as a mark. Once a page was met before, all that follow were too, until the mark or the count tells.
--     begin                   before the first page
--     outside                 a link outside 1..P-1
--     stopped, going_on       the page is the mark, or as many pages were walked as there are; or neither
--     missing, faulty, at_last    the page is not held, its fault refuses, it is the last page
--     onward                  the next page, with the old mark or the page as the mark
use mathlib.Core.Path.{◌≡◌, refl, sym, ap, ◌∙◌}
use mathlib.Core.Bool.{Bool, true, false, ◌||◌, false≢true}
use mathlib.Core.List.{List, [], ◌∷◌, ◌++◌}
use mathlib.Core.Logic.{◌⊎◌, inl, inr, ⊎_elim}
use Prim.Native.Nat.{ℕ, suc, ◌+◌, ◌-◌, ◌*◌, min, ◌<◌, ◌≤◌, ◌^◌}
use native.Mathlib.Omega.{arith}
use lib.ListN.{length, length-append}
use lib.Dec.{eqb, leb}
use borrow.Author.Tests.{eqb-true, leb-true, leb-false}
use Rattle.lists.specs.Member.{is_member}
use Rattle.refusal.specs.declared.Fault.{Fault}
use Rattle.refusal.specs.Fault.{fault}
use Rattle.refusal.specs.Answer.{Answer, given, refused}
use Rattle.page.specs.Read.{row_count}
use Rattle.format.specs.Place.{linkable}
use Rattle.page.specs.Found.{Rows}
use Rattle.chain.specs.Walk.{Pages, Walk, full, waiting, in_front, walk, walk_from}
use Rattle.chain.specs.Tally.{tally}
use Rattle.lists.proofs.Choice.{on, never}
use Rattle.lists.proofs.Member.{member_first, member_more, member_cases}
use Rattle.chain.proofs.Linkable.{inside_both, both_inside}
use Rattle.chain.proofs.FuelEnough.{Sound, sound_none, sound_more, few}
use Rattle.chain.proofs.WalkStep.{read_then, behind, step_outside, step_waiting, step_read, step_loop}

-- what was found before stands in front
abbrev pub ahead : ℕ → ℕ → Walk ℕ → Walk ℕ
ahead rows n (given (full more pages)) = given (full (rows + more) (n + pages))
ahead rows n (given (waiting page more pages)) = given (waiting page (rows + more) (n + pages))
ahead rows n (refused f) = refused f

ahead_none : (w : Walk ℕ) → w ≡ ahead 0 0 w
ahead_none (given (full rows pages)) = let r : 0 + rows ≡ rows = omega arith in let p : 0 + pages ≡ pages = omega arith in rw (r, p)
ahead_none (given (waiting page rows pages)) = let r : 0 + rows ≡ rows = omega arith in let p : 0 + pages ≡ pages = omega arith in rw (r, p)
ahead_none (refused f) = refl

-- a page in front of the rest, counted
ahead_page : (rows n : ℕ) (some : Rows) (w : Walk Rows) → ahead rows n (tally (in_front some w)) ≡ ahead (rows + length some) (n + 1) (tally w)
ahead_page rows n some (given (full rest pages)) =
    let p : n + (pages + 1) ≡ n + 1 + pages = omega arith in
    let r : rows + length (some ++ rest) ≡ rows + length some + length rest = simp length-append (omega arith) in
    rw (r, p)
ahead_page rows n some (given (waiting page rest pages)) =
    let p : n + (pages + 1) ≡ n + 1 + pages = omega arith in
    let r : rows + length (some ++ rest) ≡ rows + length some + length rest = simp length-append (omega arith) in
    rw (r, p)
ahead_page rows n some (refused f) = refl

-- as many pages as links of 32 bits tell apart, of those that there are
abbrev pub most : ℕ → ℕ
most count = min count 0x1_0000_0000

most_inside : (count page : ℕ) → linkable count page ≡ true → page < 0x1_0000_0000 → linkable (most count) page ≡ true
most_inside count page i l = let b = inside_both count page i in both_inside (most count) page b.0 (omega arith)

-- what a page's count says of its rows
record Counted (a : Answer Rows) (k : ℕ) : Type 0 where
  some : Rows
  gives : a ≡ given some
  count : length some ≡ k

counted_given : (a : Answer Rows) (k : ℕ) → given k ≡ row_count a → Counted a k
counted_given (given some) k e = record { some = some; gives = refl; count = cc }
counted_given (refused f) k e = never (cc)

counted_refused : (a : Answer Rows) (f : Fault) → refused f ≡ row_count a → a ≡ refused f
counted_refused (given some) f e = never (cc)
counted_refused (refused g) f e = cc

-- a page that the walk went through, on the way to a page
pub record Through (pages : Pages) (met : List ℕ) (page q : ℕ) : Type 0 where
  pub inside : linkable pages.page_count q ≡ true
  pub held : pages.held q ≡ true
  pub rows : Rows
  pub read : pages.read q ≡ given rows
  pub not_last : pages.is_last q ≡ false
  pub onward : (is_member (pages.next q) met ≡ true) ⊎ (pages.next q ≡ page)

-- its next page is met, whatever page the walk is at and whatever else is met
still : {pages : Pages} {met more : List ℕ} {page next q : ℕ} → Through pages met page q → is_member (pages.next q) more ≡ true → Through pages more next q
still p m = record { inside = p.inside; held = p.held; rows = p.rows; read = p.read; not_last = p.not_last; onward = inl m }

-- what is known before each turn: the pages met, how many they are, the mark, and that the walk is what was found and the walk from here
pub record Going (pages : Pages) (first rows n mark holder page : ℕ) : Type 0 where
  pub met : List ℕ
  pub through : (q : ℕ) → is_member q met ≡ true → Through pages met page q
  pub sound : Sound (most pages.page_count) met
  pub walked : is_member page met ≡ false → length met ≡ n
  pub marked : (mark ≡ 0) ⊎ (is_member mark met ≡ true)
  pub narrow : page < 0x1_0000_0000
  pub room : n < 0x1_0000_0000
  pub low : rows ≤ 0xffff_ffff * n
  pub rest : tally (walk_from pages first) ≡ ahead rows n (tally (walk pages (suc pages.page_count - n) met holder page))

-- a turn that has come to reading its page
pub record OnPage (pages : Pages) (first rows n mark holder page : ℕ) : Type 0 where
  pub going : Going pages first rows n mark holder page
  pub inside : linkable pages.page_count page ≡ true
  pub held : pages.held page ≡ true
  pub left : n + 1 < most pages.page_count

pub begin : (pages : Pages) (first : ℕ) → first < 0x1_0000_0000 → Going pages first 0 0 0 0 first
unfolding walk_from is_member
begin pages first h =
    let z : suc pages.page_count - 0 ≡ suc pages.page_count = omega arith in
    record {
      met = [];
      through = λ q e. never (cc);
      sound = sound_none (most pages.page_count);
      walked = λ _. refl;
      marked = inl refl;
      narrow = h;
      room = omega arith;
      low = omega arith;
      rest = rw z (ahead_none (tally (walk pages (suc pages.page_count) [] 0 first)));
    }

module _ {pages : Pages} {first rows n mark holder page : ℕ} (g : Going pages first rows n mark holder page) where
  -- a page that has not been met: its step of the walk is still to come
  fresh : is_member page g.met ≡ false → suc pages.page_count - n ≡ suc (pages.page_count - n)
  fresh e = omega (arith, g.walked e, few pages.page_count g.met g.sound.distinct (λ q m. (g.through q m).inside))

  pub outside : linkable pages.page_count page ≡ false → refused (fault 11 holder) ≡ tally (walk_from pages first)
  outside o =
      let new : is_member page g.met ≡ false = on (is_member page g.met) (λ m. absurd (false≢true (sym o ∙ (g.through page m).inside))) (λ f. f) in
      sym (g.rest ∙ rw (fresh new, step_outside pages (pages.page_count - n) g.met holder page o))

  -- the code's test does not stop the walk, so there is room for one page more and its rows
  pub going_on : {r : Bool} → r ≡ (eqb page mark || leb (most pages.page_count) (n + 1)) → r ≡ false → n + 1 < most pages.page_count
  going_on e f =
      on (eqb page mark) (λ m. absurd (false≢true (sym f ∙ e ∙ rw m)))
      (λ m. leb-false (most pages.page_count) (n + 1) (rw m at (sym e ∙ f)))

  pub rows_room : {found : ℕ} → n + 1 < most pages.page_count → found ≤ 0xffff_ffff → rows + found < 2 ^ 64
  rows_room h l = omega (arith, g.low)

  module _ (i : linkable pages.page_count page ≡ true) where
    met_again : is_member page g.met ≡ true → refused (fault 16 0) ≡ tally (walk_from pages first)
    met_again m = sym (g.rest ∙ rw (step_loop pages (suc pages.page_count - n) g.met holder page i m))

    at_mark : page ≡ mark → refused (fault 16 0) ≡ tally (walk_from pages first)
    at_mark e =
        ⊎_elim (λ z. absurd (omega (arith, inside_both pages.page_count page i))) (λ m. met_again (rw e m)) g.marked

    at_count : most pages.page_count ≤ n + 1 → refused (fault 16 0) ≡ tally (walk_from pages first)
    at_count h =
        let k = most_inside pages.page_count page i g.narrow in
        on (is_member page g.met) met_again
        (λ e. let s = sound_more page g.sound k e in
        let all = few (most pages.page_count) (page ∷ g.met) s.distinct s.inside in
        absurd (omega (arith, g.walked e, inside_both (most pages.page_count) page k, all)))

    pub stopped : {r : Bool} → r ≡ (eqb page mark || leb (most pages.page_count) (n + 1)) → r ≡ true → refused (fault 16 0) ≡ tally (walk_from pages first)
    stopped e t =
        on (eqb page mark) (λ m. at_mark (eqb-true page mark m))
        (λ m. at_count (leb-true (most pages.page_count) (n + 1) (rw m at (sym e ∙ t))))

    pub missing : pages.held page ≡ false → given (waiting page rows n) ≡ tally (walk_from pages first)
    missing h =
        let new : is_member page g.met ≡ false = on (is_member page g.met) (λ m. absurd (false≢true (sym h ∙ (g.through page m).held))) (λ f. f) in
        let r : rows + 0 ≡ rows = omega arith in
        let p : n + 0 ≡ n = omega arith in
        sym (g.rest ∙ rw (fresh new, step_waiting pages (pages.page_count - n) g.met holder page i new h, r, p))

    module _ (h : pages.held page ≡ true) where
      read_new : is_member page g.met ≡ false
          → tally (walk_from pages first) ≡ ahead rows n (tally (read_then (pages.read page) (behind pages (pages.page_count - n) g.met holder page)))
      read_new new = g.rest ∙ rw (fresh new, step_read pages (pages.page_count - n) g.met holder page i new h)

      pub faulty : (f : Fault) → refused f ≡ row_count (pages.read page) → refused f ≡ tally (walk_from pages first)
      faulty f e =
          let r = counted_refused (pages.read page) f e in
          on (is_member page g.met) (λ m. never (let z = (g.through page m).read in cc)) (λ new. sym (read_new new ∙ rw r))

      module _ {found : ℕ} (e : given found ≡ row_count (pages.read page)) where
        read_rows : is_member page g.met ≡ false
            → tally (walk_from pages first) ≡ ahead (rows + found) (n + 1) (tally (behind pages (pages.page_count - n) g.met holder page))
        read_rows new =
            let k = counted_given (pages.read page) found e in
            let w = behind pages (pages.page_count - n) g.met holder page in
            read_new new ∙ ap (λ (a : Answer Rows). ahead rows n (tally (read_then a w))) k.gives ∙ ahead_page rows n k.some w ∙ rw k.count

        pub at_last : pages.is_last page ≡ true → given (full (rows + found) (n + 1)) ≡ tally (walk_from pages first)
        unfolding behind
        at_last last =
            let r : rows + found + 0 ≡ rows + found = omega arith in
            let p : n + 1 + 0 ≡ n + 1 = omega arith in
            on (is_member page g.met) (λ m. absurd (false≢true (sym (g.through page m).not_last ∙ last))) (λ new. sym (read_rows new ∙ rw (last, r, p)))

        module _ {next : ℕ} (l : next < 0x1_0000_0000) (k : n + 1 < most pages.page_count) (small : found ≤ 0xffff_ffff)
            (not_last : pages.is_last page ≡ false) (nx : next ≡ pages.next page) where
          -- the page was met before: so was the next one, and nothing new is met
          again : {mark' : ℕ} → is_member page g.met ≡ true → (mark' ≡ mark) ⊎ (mark' ≡ page) → Going pages first (rows + found) (n + 1) mark' page next
          again m marks =
              record {
                met = g.met;
                through = λ q t. still (g.through q t) (met_next q t);
                sound = g.sound;
                walked = λ f. absurd (false≢true (sym f ∙ next_met));
                marked = ⊎_elim (λ same. rw same g.marked) (λ here. inr (rw here m)) marks;
                narrow = l;
                room = omega arith;
                low = omega (arith, g.low);
                rest =
                    let inside = (g.through next next_met).inside in
                    sym (met_again m) ∙ rw (step_loop pages (suc pages.page_count - (n + 1)) g.met page next inside next_met);
              }
            where
              met_next : (q : ℕ) → is_member q g.met ≡ true → is_member (pages.next q) g.met ≡ true
              met_next q t = ⊎_elim (λ s. s) (λ s. rw s m) (g.through q t).onward

              next_met : is_member next g.met ≡ true
              next_met = rw nx (met_next page m)

          -- the page is new: it joins those met
          further : {mark' : ℕ} → is_member page g.met ≡ false → (mark' ≡ mark) ⊎ (mark' ≡ page) → Going pages first (rows + found) (n + 1) mark' page next
          unfolding behind
          further new marks =
              let read = counted_given (pages.read page) found e in
              let fuel : suc pages.page_count - (n + 1) ≡ pages.page_count - n = omega arith in
              record {
                met = page ∷ g.met;
                through = λ q t. ⊎_elim
                    (λ s. rw s (record { inside = i; held = h; rows = read.some; read = read.gives; not_last = not_last; onward = inr (sym nx) }))
                    (λ s. let p = g.through q s in still p (met_then q p.onward))
                    (member_cases q page g.met t);
                sound = sound_more page g.sound (most_inside pages.page_count page i g.narrow) new;
                walked = λ _. let w = g.walked new in omega arith;
                marked = ⊎_elim (λ same. rw same (⊎_elim (λ z. inl z) (λ m. inr (member_more mark page g.met m)) g.marked))
                    (λ here. inr (rw here (member_first page g.met))) marks;
                narrow = l;
                room = omega arith;
                low = omega (arith, g.low);
                rest = read_rows new ∙ rw (not_last, fuel, nx);
              }
            where
              met_then : (q : ℕ) → (is_member (pages.next q) g.met ≡ true) ⊎ (pages.next q ≡ page) → is_member (pages.next q) (page ∷ g.met) ≡ true
              met_then q o = ⊎_elim (λ m. member_more (pages.next q) page g.met m) (λ s. rw s (member_first page g.met)) o

          pub onward : {mark' : ℕ} → (mark' ≡ mark) ⊎ (mark' ≡ page) → Going pages first (rows + found) (n + 1) mark' page next
          onward marks = on (is_member page g.met) (λ m. again m marks) (λ new. further new marks)
