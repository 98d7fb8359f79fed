-- What the questions of the page decoders and of asking lead to: the first no, or the page's answer. Assumes nothing.
use mathlib.Core.Bool.{Bool, true}
use mathlib.Core.List.{List}
use mathlib.Core.Path.{◌≡◌, refl, sym, ap, ap₂, ◌∙◌, subst}
use Prim.Native.Nat.{ℕ, ◌≤◌}
use native.Mathlib.Omega.{arith}
use borrow.Author.Tests.{eq-eqb, eqb-true, le-leb, leb-true}
use lib.Dec.{eqb, leb}
use lib.IntN.{ℤ}
use lib.ListN.{length}
use mir.Syntax.{w64}
use mir.Val.{SFits, to_z, of_z}
use mir.Facts.{to_z-of_z}
use Rattle.column.specs.Shape.{short}
use Rattle.dump.specs.Accepted.{Values}
use Rattle.trellis.specs.Demand.{Search}
use Rattle.trellis.specs.TwoWords.{Choice, on, threshold_allowed}
use Rattle.search.specs.Outcomes.{search_of}
use Rattle.list_of_two.specs.declared.Way.{Way}
use Rattle.list_of_two.specs.Ways.{choice}
use Rattle.readings.specs.Steps.{way_reader}
use Rattle.concatenated.specs.Format.{short_page}
use Rattle.concatenated.specs.SoftPage.{Soft, soft_columns}
use Rattle.concatenated.specs.Decode.{PageAnswer, decoded}
use Rattle.concatenated.specs.OuterCode.{short_outer}
use Rattle.page.specs.Outcomes.{outcome_of, Buffer, filled, PageOutcome}
use Rattle.questions.specs.Questions.{first_above}
use Rattle.questions.specs.Answer.{Outcome, refused as refused_by, done as all_done}
use Rattle.questions.proofs.EitherWay.{by_answer, either, first_bad, led, led_on, asked_done}
use Rattle.store_pages.specs.Pages.{ask_page, decoded_page, FilledBy, PageFilled}
use Rattle.store_pages.proofs.SoftValues.{values_are_soft, none_above_7}
use Rattle.questions.specs.declared.refusal.Question.TheVariants.{InputLength, OutputLength, Limit, Range, Threshold}
use Rattle.questions.specs.declared.refusal.Question.{Question}
use Rattle.questions.specs.declared.refusal.Refusal.{Refusal}
use Rattle.questions.specs.Number.{number_of}
use Rattle.std.specs.Prelude.{Ok, Err, Option}

-- a refusal of a number 1..11 and a place up to 1890
abbrev pub Refusals : {A : Type 0} → (A → Type 0) → (Question → ℕ → A) → Type 0
Refusals P refusal = (q : Question) (p : ℕ) → 1 ≤ number_of q → number_of q ≤ 11 → p ≤ 1890 → P (refusal q p)

module _ (choice : Choice) (soft : List ℕ) (limit : ℕ) (room : Bool) where
  -- what holds of every refusal, and of what follows with a limit up to 2000, holds whatever is answered
  pub every_way : {A : Type 0} (P : A → Type 0) (refusal : Question → ℕ → A) (next : A) → Refusals P refusal → (limit ≤ 2000 → P next) → P (ask_page choice soft limit room refusal next)
  every_way P refusal next r n =
      either P (eqb (length soft) 1890) _ _ (r InputLength 0 (omega arith) (omega arith) (omega arith))
      (either P room _ _ (r OutputLength 0 (omega arith) (omega arith) (omega arith))
      (either P (leb 1 limit) _ _ (r Limit 0 (omega arith) (omega arith) (omega arith))
      (by_answer P (leb limit 2000) _ _ (λ e. r Limit 0 (omega arith) (omega arith) (omega arith)) (λ e.
      either P (threshold_allowed choice) _ _ (r Threshold 0 (omega arith) (omega arith) (omega arith))
      (first_bad P 1890 (first_above soft 7) _ _ (λ h. r Range (first_above soft 7) (omega arith) (omega arith) (omega arith)) (n (leb-true limit 2000 e)))))))

  -- all are answered yes
  pub all_yes : length soft ≡ 1890 → room ≡ true → 1 ≤ limit → limit ≤ 2000 → threshold_allowed choice ≡ true → 1890 ≤ first_above soft 7 → (A : Type 0) (refusal : Question → ℕ → A) (next : A) → next ≡ ask_page choice soft limit room refusal next
  all_yes long has_room some most in_range good A refusal next = simp (eq-eqb _ _ long, has_room, le-leb _ _ some, le-leb _ _ most, in_range, le-leb _ _ good)

  -- then page decoding may begin
  pub record Ready : Type 0 where
    pub long : length soft ≡ 1890
    pub values : Soft soft
    pub most : limit ≤ 2000
    pub has_room : room ≡ true
    pub in_range : threshold_allowed choice ≡ true

  pub ready : ask_page choice soft limit room refused_by all_done ≡ all_done → Ready
  ready e =
      let one = asked_done (eqb (length soft) 1890) _ _ _ e in
      let two = asked_done room _ _ _ one.1 in
      let four = asked_done (leb 1 limit) _ _ _ two.1 in
      let most = asked_done (leb limit 2000) _ _ _ four.1 in
      let eleven = asked_done (threshold_allowed choice) _ _ _ most.1 in
      let five = asked_done (leb 1890 (first_above soft 7)) _ _ _ eleven.1 in
      let long : length soft ≡ 1890 = eqb-true _ _ one.0 in
      record { long = long; values = values_are_soft soft (omega (arith, long, leb-true 1890 (first_above soft 7) five.0)); most = leb-true limit 2000 most.0; has_room = two.0; in_range = eleven.0 }

  -- the answer of the questions alone settles every use of them
  pub settled : {A : Type 0} (refusal : Question → ℕ → A) (next : A) (o : Outcome) → o ≡ ask_page choice soft limit room refused_by all_done → ask_page choice soft limit room refusal next ≡ led o refusal next
  settled refusal next o e =
      led_on (eqb (length soft) 1890) InputLength 0 refusal next _
      (led_on room OutputLength 0 refusal next _
      (led_on (leb 1 limit) Limit 0 refusal next _
      (led_on (leb limit 2000) Limit 0 refusal next _
      (led_on (threshold_allowed choice) Threshold 0 refusal next _
      (led_on (leb 1890 (first_above soft 7)) Range (first_above soft 7) refusal next all_done refl)))))
      ∙ ap (λ (x : Outcome). led x refusal next) (sym e)

  -- a refusal has a number other than 0
  abbrev pub Numbered : Outcome → Type 0
  Numbered (Ok v) = Unit {0}
  Numbered (Err r) = 1 ≤ number_of r.question

  pub refusals_are_numbered : Numbered (ask_page choice soft limit room refused_by all_done)
  refusals_are_numbered = every_way Numbered refused_by all_done (λ q p some few near. some) (λ most. tt)

-- a call with right values, limit and threshold, whose buffer has its places, gives what the page's answer makes
module _ (page : PageAnswer) (B : Buffer) (choice : Choice) (soft : List ℕ) (limit : ℕ) (old : List ℕ) where
  pub accepted_call : Values 1890 7 soft → 1 ≤ limit → limit ≤ 2000 → threshold_allowed choice ≡ true → length old ≡ B.places → (r : PageOutcome) (new : List ℕ) → FilledBy page B choice soft limit old r new
      → (r ≡ outcome_of page) × (new ≡ filled B old page)
  accepted_call values_soft some at_most in_range room r new call =
      let asked = all_yes choice soft limit (eqb (length old) B.places) values_soft.size (eq-eqb _ _ room) some at_most in_range (none_above_7 soft values_soft) in
      (call.answer ∙ sym (asked PageOutcome refused_by (outcome_of page)), call.bytes ∙ sym (asked (List ℕ) (λ q p. old) (filled B old page)))

  -- a call that gives the refusal and keeps the buffer, or what the page's answer gives, gives what is due
  pub refused_as : (refusal : Refusal) → Err refusal ≡ ask_page choice soft limit (eqb (length old) B.places) refused_by all_done → (r : PageOutcome) → r ≡ Err refusal → FilledBy page B choice soft limit old r old
  refused_as refusal asked r e =
      let room = eqb (length old) B.places in
      record { answer = e ∙ sym (settled choice soft limit room refused_by _ (Err refusal) asked); bytes = sym (settled choice soft limit room (λ q p. old) _ (Err refusal) asked) }

  pub filled_as : all_done ≡ ask_page choice soft limit (eqb (length old) B.places) refused_by all_done → (r : PageOutcome) (new : List ℕ) → r ≡ outcome_of page
      → new ≡ filled B old page → FilledBy page B choice soft limit old r new
  filled_as asked r new e b =
      let room = eqb (length old) B.places in
      record { answer = e ∙ sym (settled choice soft limit room refused_by _ all_done asked); bytes = b ∙ sym (settled choice soft limit room (λ q p. old) _ all_done asked) }

-- ---- the code's flags

-- the page in a way is that of the choice, the search and the limit that the way names
page_in_its_way : (way : Way) (threshold : Option ℤ) (in_supercodes : Bool) (limit : ℕ) → (way.limit ≡ limit) × (way.in_supercodes ≡ in_supercodes) × (way.threshold ≡ threshold) → (soft : List ℕ)
    → decoded short short_outer (way_reader way) (soft_columns short_page soft) ≡ decoded_page (choice threshold) (search_of in_supercodes) soft limit
page_in_its_way way threshold in_supercodes limit is soft =
    ap₂ (λ (t : Option ℤ) (l : ℕ). decoded_page (choice t) (search_of way.in_supercodes) soft l) is.2 is.0 ∙ ap (λ (b : Bool). decoded_page (choice threshold) (search_of b) soft limit) is.1

-- a call that gives what the page in its way gives
pub filled_in_its_way : (B : Buffer) (way : Way) (threshold : Option ℤ) (in_supercodes : Bool) (soft : List ℕ) (limit : ℕ) (old : List ℕ)
    → (way.limit ≡ limit) × (way.in_supercodes ≡ in_supercodes) × (way.threshold ≡ threshold)
    → all_done ≡ ask_page (choice threshold) soft limit (eqb (length old) B.places) refused_by all_done → (r : PageOutcome) (new : List ℕ)
    → r ≡ outcome_of (decoded short short_outer (way_reader way) (soft_columns short_page soft)) → new ≡ filled B old (decoded short short_outer (way_reader way) (soft_columns short_page soft))
    → PageFilled B (choice threshold) (search_of in_supercodes) soft limit old r new
filled_in_its_way B way threshold in_supercodes soft limit old is asked r new e b =
    let page = page_in_its_way way threshold in_supercodes limit is soft in
    filled_as (decoded_page (choice threshold) (search_of in_supercodes) soft limit) B (choice threshold) soft limit old asked r new (e ∙ ap outcome_of page) (b ∙ ap (filled B old) page)

-- a call that hands its threshold on
pub as_handed_on : (t : ℤ) → SFits w64 t → (s : Search) {B : Buffer} {soft : List ℕ} {limit : ℕ} {old : List ℕ} {r : PageOutcome} {new : List ℕ}
    → PageFilled B (on (to_z w64 (of_z w64 t))) s soft limit old r new → PageFilled B (on t) s soft limit old r new
as_handed_on t fits s {B} {soft} {limit} {old} {r} {new} = subst (λ (x : ℤ). PageFilled B (on x) s soft limit old r new) (to_z-of_z fits)
