-- Laws of `joined`: parts of m values one after the other, as a writer makes them and as a reader takes them. Assumes nothing.
use mathlib.Core.Path.{◌≡◌, refl, ap, ap₂, ◌∙◌, sym}
use mathlib.Core.List.{List, ◌++◌}
use Prim.Native.Nat.{ℕ, zero, suc, ◌+◌, ◌*◌, ◌<◌, ◌≤◌}
use native.Mathlib.Nat.{not-suc-le-zero, suc-mul, mul-le-mul_right}
use native.Mathlib.Omega.{arith}
use lib.ListN.{length, take, drop, length-append, length-drop}
use lib.Seq.{take-add, take_all, drop_at, drop-append-le, take-append-le}
use Rattle.dump.specs.Listed.{joined}
use Rattle.dump.proofs.Listed.{below_or_last}

pub joined_ext : (f g : ℕ → List ℕ) (n : ℕ) → ((b : ℕ) → b < n → f b ≡ g b) → joined f n ≡ joined g n
unfolding joined
joined_ext f g zero each = refl
joined_ext f g (suc n) each = ap₂ (λ (l k : List ℕ). l ++ k) (joined_ext f g n (λ b h. each b (omega arith))) (each n (omega arith))

-- a list is its parts
pub joined_parts : (s : List ℕ) (m n : ℕ) → joined (λ (b : ℕ). take m (drop (b * m) s)) n ≡ take (n * m) s
unfolding joined
joined_parts s m zero = rw zero_times
  where
    zero_times : 0 * m ≡ 0
    zero_times = omega arith
joined_parts s m (suc n) = ap (λ (l : List ℕ). l ++ take m (drop (n * m) s)) (joined_parts s m n) ∙ sym (take-add (n * m) m s) ∙ ap (λ (k : ℕ). take k s) (sym (suc-mul n m))

module _ (f : ℕ → List ℕ) (m : ℕ) (long : (b : ℕ) → length (f b) ≡ m) where
  pub length_joined : (n : ℕ) → length (joined f n) ≡ n * m
  unfolding joined
  length_joined zero = omega arith
  length_joined (suc n) = simp (length-append, length_joined n, long n) (sym (suc-mul n m))

  pub part_of_joined : (n b : ℕ) → b < n → take m (drop (b * m) (joined f n)) ≡ f b
  unfolding joined
  part_of_joined zero b h = absurd (not-suc-le-zero h)
  part_of_joined (suc n) b h = below_or_last b n h (λ l. lower l (part_of_joined n b l)) last
    where
      lower : b < n → take m (drop (b * m) (joined f n)) ≡ f b → take m (drop (b * m) (joined f n ++ f n)) ≡ f b
      lower l earlier =
          let room : b * m + m ≤ n * m = rw suc-mul at (mul-le-mul_right m l) in
          let front : b * m ≤ length (joined f n) = omega (arith, length_joined n) in
          let rest : m ≤ length (drop (b * m) (joined f n)) = simp length-drop (omega (arith, length_joined n)) in
          ap (take m) (drop-append-le (b * m) (joined f n) (f n) front)
          ∙ take-append-le m (drop (b * m) (joined f n)) (f n) rest
          ∙ earlier

      last : b ≡ n → take m (drop (b * m) (joined f n ++ f n)) ≡ f b
      last e =
          ap (take m) (drop_at (joined f n) (f n) (b * m) (length_joined n ∙ ap (λ (k : ℕ). k * m) (sym e)))
          ∙ take_all m (f n) (omega (arith, long n))
          ∙ ap f (sym e)
