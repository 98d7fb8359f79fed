-- The outer code meets what a page asks of it: the answer is the codeword in reach, and the test of a row tells whether it is a codeword. Assumes nothing.
use mathlib.Core.Bool.{Bool, true, false}
use mathlib.Core.List.{List, [], ◌∷◌, map}
use mathlib.Core.Path.{◌≡◌, refl, sym, ap, ap₂, ◌∙◌, subst, subst⁻¹, fun_ext}
use Prim.Native.Nat.{ℕ, ◌-◌, ◌<◌}
use native.Mathlib.Decide.{ℕ_discrete}
use native.Mathlib.Omega.{arith}
use lib.Dec.{lit<}
use lib.ListN.{get_or, take, get_or-map}
use lib.Seq.{get_or-take}
use Rattle.field.proofs.Short.{primitive64}
use Rattle.reedsolomon.specs.Words.{InReach}
use Rattle.reedsolomon.specs.Search.{WordOf}
use Rattle.reedsolomon.specs.Row.{symbol, marked, HasInFront, encoded_row}
use Rattle.reedsolomon.proofs.ShortRows.{at_most_30_roots}
use Rattle.reedsolomon.proofs.Answers.{word_is_of_symbols, answer_if, answer_only_if, encoded_row_if}
use Rattle.reedsolomon.proofs.Remainders.{RowOf}
use Rattle.reedsolomon.proofs.Deciding.{is_codeword_if, is_codeword_only_if}
use Rattle.reedsolomon.proofs.Encoded.{encoded_row_has_data_in_front}
use Rattle.concatenated.specs.Format.{short_page, short_roots, data_count}
use Rattle.concatenated.specs.Outer.{is_in, OuterLaws}
use Rattle.concatenated.specs.Flags.{flag, is_one}
use Rattle.concatenated.specs.OuterCode.{short_outer, short_encoder, ShortCodeword, is_short_codeword}

-- ---- marks

one_of_flag : (b : Bool) → is_one (flag b) ≡ b
one_of_flag true = refl
one_of_flag false = refl

-- flags read back
pub flags_back : (bs : List Bool) → map is_one (map flag bs) ≡ bs
flags_back [] = refl
flags_back (b ∷ bs) = ap₂ (λ (x : Bool) (t : List Bool). x ∷ t) (one_of_flag b) (flags_back bs)

-- the columns marked by flags
marked_by_flags : (marks : List Bool) → marked (map flag marks) ≡ is_in marks
unfolding marked
marked_by_flags marks = fun_ext (λ j. ap is_one (get_or-map flag marks j false) ∙ one_of_flag (get_or marks j false))

module _ (i : ℕ) (h : i < 4) (d : List ℕ) (word : WordOf 64 (data_count short_page i) d) where
  abbrev T : ℕ
  T = short_roots i

  is_encoded : RowOf 6 67 63 T d (encoded_row 6 67 63 T d)
  is_encoded = encoded_row_has_data_in_front 6 67 63 T primitive64 (lit< tt) d (omega (arith, word.0, at_most_30_roots i)) (word_is_of_symbols 6 (data_count short_page i) d word)

  encodes_it : ShortCodeword i (short_encoder i d)
  unfolding short_encoder
  encodes_it = record { word = is_encoded.0; code = is_encoded.1 }

  has_it_in_front : (j : ℕ) → j < data_count short_page i → get_or (short_encoder i d) j 0 ≡ get_or d j 0
  unfolding short_encoder HasInFront
  has_it_in_front = is_encoded.2

-- a codeword is the encoded row of its data
only_it : (i : ℕ) → i < 4 → (c : List ℕ) → ShortCodeword i c → short_encoder i (take (data_count short_page i) c) ≡ c
unfolding short_encoder HasInFront
only_it i h c code =
    let T = short_roots i in
    encoded_row_if 6 67 63 T primitive64 (lit< tt) (take (63 - T) c) c (omega (arith, at_most_30_roots i)) code.word code.code (λ j l. sym (get_or-take (63 - T) c j 0 l))

-- the laws of the short page's outer code
pub outer_laws : OuterLaws short_page short_outer short_encoder ShortCodeword
unfolding short_outer
outer_laws =
    record {
      word = λ i c h w. w.word;
      gives = λ i w marks c h lw lm code near.
          answer_if 6 67 63 (short_roots i) primitive64 (lit< tt) w (map flag marks) c code.word (code.code, subst⁻¹ (Near i w c) (marked_by_flags marks) near);
      given = λ i w marks c h lw lm e.
          let r = answer_only_if 6 67 63 (short_roots i) primitive64 (lit< tt) w (map flag marks) c e in
          (record { word = r.0; code = r.1.0 }, subst (Near i w c) (marked_by_flags marks) r.1.1);
      encodes = λ i d h word. encodes_it i h d word;
      in_front_are = λ i d h word. has_it_in_front i h d word;
      only = λ i c h code. only_it i h c code;
    }
  where
    Near : ℕ → List ℕ → List ℕ → (ℕ → Bool) → Type 0
    Near i w c E = InReach ℕ_discrete E 63 (short_roots i) (symbol w) (symbol c)

-- ---- the test of a row

pub short_codeword_is_told : (i : ℕ) (c : List ℕ) → ShortCodeword i c → is_short_codeword i c ≡ true
unfolding is_short_codeword
short_codeword_is_told i c code = is_codeword_if 6 67 63 (short_roots i) c code.code

pub told_is_a_short_codeword : (i : ℕ) (c : List ℕ) → WordOf 64 63 c → is_short_codeword i c ≡ true → ShortCodeword i c
unfolding is_short_codeword
told_is_a_short_codeword i c word e = record { word = word; code = is_codeword_only_if 6 67 63 (short_roots i) c e }
