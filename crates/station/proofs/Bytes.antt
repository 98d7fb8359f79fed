-- Numbers in bytes, high byte first, and where a report has its marks. Assumes nothing.
use mathlib.Core.List.{List, [], ◌∷◌, ◌++◌, append_assoc, append-nil}
use mathlib.Core.Logic.{⊎_elim}
use mathlib.Core.Path.{◌≡◌, refl, sym, ap, ap₂, ◌∙◌}
use Prim.Native.Nat.{ℕ, zero, suc, ◌+◌, ◌*◌, ◌/◌, ◌%◌, ◌^◌, ◌<◌}
use native.Mathlib.Nat.{eq-or-lt_of_le, not-suc-le-zero, le_of_suc-le-suc, suc_inj}
use native.Mathlib.Omega.{arith}
use lib.ListN.{length, length-append, get_or, take, drop}
use lib.Seq.{take_at, drop_at, drop-drop, drop-append-le, drop-append-add}
use Rattle.std.specs.Int.{w16, w64, to_be_bytes}
use Rattle.concatenated.specs.Data.{digits}
use Rattle.concatenated.proofs.Digits.{digits_length}
use Rattle.station.specs.Report.{mark_bytes}

-- a number's bytes are its digits
pub eight_bytes : (n : ℕ) → to_be_bytes w64 n ≡ digits 256 8 n
unfolding digits
eight_bytes n = let all : n ≡ n / 1 = omega arith in ap (λ (m : ℕ). n / 256 ^ 7 % 256 ∷ n / 256 ^ 6 % 256 ∷ n / 256 ^ 5 % 256 ∷ n / 256 ^ 4 % 256 ∷ n / 256 ^ 3 % 256 ∷ n / 256 ^ 2 % 256 ∷ n / 256 ^ 1 % 256 ∷ m % 256 ∷ []) all

pub two_bytes : (n : ℕ) → to_be_bytes w16 n ≡ digits 256 2 n
unfolding digits
two_bytes n = let all : n ≡ n / 1 = omega arith in ap (λ (m : ℕ). n / 256 % 256 ∷ m % 256 ∷ []) all

-- four bytes in front of others
pub four_bytes : (n : ℕ) (rest : List ℕ) → n / 16777216 % 256 ∷ n / 65536 % 256 ∷ n / 256 % 256 ∷ n % 256 ∷ rest ≡ digits 256 4 n ++ rest
unfolding digits
four_bytes n rest = let all : n ≡ n / 1 = omega arith in ap (λ (m : ℕ). n / 16777216 % 256 ∷ n / 65536 % 256 ∷ n / 256 % 256 ∷ m % 256 ∷ rest) all

-- of each level two marks of eight bytes
two_marks_length : (c e : ℕ) → length (digits 256 8 c ++ digits 256 8 e) ≡ 16
two_marks_length c e = length-append (digits 256 8 c) (digits 256 8 e) ∙ ap₂ ◌+◌ (digits_length 256 8 c) (digits_length 256 8 e)

pub mark_bytes_length : (n : ℕ) (cs es : List ℕ) → length (mark_bytes n cs es) ≡ 16 * n
unfolding mark_bytes
mark_bytes_length zero cs es = refl
mark_bytes_length (suc n) cs es = length-append (mark_bytes n cs es) _ ∙ omega (arith, mark_bytes_length n cs es, two_marks_length (get_or cs n 0) (get_or es n 0))

abbrev both_marks : List ℕ → List ℕ → ℕ → List ℕ
both_marks cs es i = digits 256 8 (get_or cs i 0) ++ digits 256 8 (get_or es i 0)

-- those of level i, and the others behind them
record LevelBytes (n : ℕ) (cs es : List ℕ) (i : ℕ) : Type 0 where
  pub others : List ℕ
  pub are : drop (16 * i) (mark_bytes n cs es) ≡ both_marks cs es i ++ others

level_bytes : (n : ℕ) (cs es : List ℕ) (i : ℕ) → i < n → LevelBytes n cs es i
unfolding mark_bytes
level_bytes zero cs es i h = absurd (not-suc-le-zero h)
level_bytes (suc n) cs es i h = ⊎_elim last (λ l. before l (level_bytes n cs es i (le_of_suc-le-suc l))) (eq-or-lt_of_le h)
  where
    last : suc i ≡ suc n → LevelBytes (suc n) cs es i
    last e =
        let same : i ≡ n = suc_inj e in
        record { others = []; are = drop_at (mark_bytes n cs es) (both_marks cs es n) (16 * i) (omega (arith, mark_bytes_length n cs es, same)) ∙ ap (both_marks cs es) (sym same) ∙ sym (append-nil (both_marks cs es i)) }

    before : suc i < suc n → LevelBytes n cs es i → LevelBytes (suc n) cs es i
    before l lower =
        record {
          others = lower.others ++ both_marks cs es n;
          are =
              drop-append-le (16 * i) (mark_bytes n cs es) (both_marks cs es n) (omega (arith, mark_bytes_length n cs es, l))
              ∙ ap (λ (t : List ℕ). t ++ both_marks cs es n) lower.are ∙ append_assoc (both_marks cs es i) lower.others (both_marks cs es n);
        }

-- the marks of level i behind 12 bytes
module _ (front : List ℕ) (twelve : length front ≡ 12) (n : ℕ) (cs es : List ℕ) (i : ℕ) (h : i < n) where
  from_level : (k : ℕ) → drop (12 + 16 * i + k) (front ++ mark_bytes n cs es) ≡ drop k (digits 256 8 (get_or cs i 0) ++ (digits 256 8 (get_or es i 0) ++ (level_bytes n cs es i h).others))
  from_level k =
      let place : 12 + 16 * i + k ≡ length front + (16 * i + k) = omega (arith, twelve) in
      ap (λ (m : ℕ). drop m (front ++ mark_bytes n cs es)) place ∙ drop-append-add front (mark_bytes n cs es) (16 * i + k) ∙ sym (drop-drop k (16 * i) (mark_bytes n cs es))
      ∙ ap (drop k) ((level_bytes n cs es i h).are ∙ append_assoc (digits 256 8 (get_or cs i 0)) (digits 256 8 (get_or es i 0)) _)

  pub changed_part : take 8 (drop (12 + 16 * i) (front ++ mark_bytes n cs es)) ≡ digits 256 8 (get_or cs i 0)
  changed_part =
      let place : 12 + 16 * i ≡ 12 + 16 * i + 0 = omega arith in
      ap (λ (m : ℕ). take 8 (drop m (front ++ mark_bytes n cs es))) place ∙ ap (take 8) (from_level 0) ∙ take_at (digits 256 8 (get_or cs i 0)) _ 8 (digits_length 256 8 (get_or cs i 0))

  pub erased_part : take 8 (drop (12 + 16 * i + 8) (front ++ mark_bytes n cs es)) ≡ digits 256 8 (get_or es i 0)
  erased_part =
      ap (take 8) (from_level 8 ∙ drop_at (digits 256 8 (get_or cs i 0)) _ 8 (digits_length 256 8 (get_or cs i 0))) ∙ take_at (digits 256 8 (get_or es i 0)) _ 8 (digits_length 256 8 (get_or es i 0))
