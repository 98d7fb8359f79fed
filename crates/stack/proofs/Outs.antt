-- What stays and what comes out when a key goes in and the first comes out. Assumes nothing.
use Prim.Native.Nat.{ℕ, suc, ◌+◌, ◌-◌, ◌≤◌, ◌<◌}
use native.Mathlib.Omega.{arith}
use mathlib.Core.Bool.{true, false}
use mathlib.Core.Path.{◌≡◌, refl, sym, ap, ◌∙◌, subst}
use lib.IntN.{ℤ}
use lib.Signed.{lt_z}
use Rattle.heap.specs.Heap.{weigh, Every, Heap}
use Rattle.heap.proofs.Ways.{root_first}
use Rattle.heap.proofs.Lists.{every_kept}
use Rattle.trellis.specs.Keys.{Key, key, key_before}
use Rattle.stack.specs.Places.{Upto, Out}
use Rattle.stack.proofs.KeyOrder.{key_dec, upto_same, upto_anti, upto_trans, upto_not}

root : (f : ℕ → Key) (n : ℕ) → Heap Upto f n → Every (Upto (f 0)) f n
root f n p = root_first Upto upto_trans upto_same f n p

-- what holds of every path that is there, and of one that comes, holds of those that stay
pub stay : (P : Key → Type 0) (f g : ℕ → Key) (n m : ℕ) (x : Key) → ((h : Key → ℕ) → weigh h g m ≤ weigh h f n + h x) → P x → Every P f n → Every P g m
stay = every_kept Upto key_dec upto_same upto_anti upto_trans

-- ---- one in, one out

pub out_none : (f : ℕ → Key) (n : ℕ) (x : Key) → n ≡ 0 → Heap Upto f n → Out f n x (λ h. weigh h f n + h x)
out_none f n x e p = record { heap = p; weight = λ h. refl; first = λ j lt. absurd (omega arith) }

pub out_same : (f : ℕ → Key) (n : ℕ) (x : Key) → Heap Upto f n → key_before (f 0) x ≡ false → Out f n x (λ h. weigh h f n + h x)
out_same f n x p b = record { heap = p; weight = λ h. refl; first = λ j lt. upto_trans x (f 0) (f j) b (root f n p j lt) }

pub out_sunk : (f₀ f : ℕ → Key) (n : ℕ) (x y : Key) → Heap Upto f₀ n → Heap Upto f n → ((h : Key → ℕ) → weigh h f n + h (f₀ 0) ≡ weigh h f₀ n + h x) → key_before (f₀ 0) x ≡ true → f₀ 0 ≡ y
    → Out f n y (λ h. weigh h f₀ n + h x)
out_sunk f₀ f n x y p₀ p w b q =
    record {
      heap = p;
      weight = λ h. ap (λ (z : Key). weigh h f n + h z) (sym q) ∙ w h;
      first = subst (λ (z : Key). Every (Upto z) f n) q (stay (Upto (f₀ 0)) f₀ f n n x (λ h. omega (arith, w h)) (upto_not (f₀ 0) x b) (root f₀ n p₀));
    }

-- a path with a larger sum than the root's comes out again
pub root_after : (s t : ℤ) (l b l' b' : ℕ) → lt_z t s ≡ true → key_before (key t l' b') (key s l b) ≡ false
unfolding key_before
root_after s t l b l' b' e = let first : key_before (key s l b) (key t l' b') ≡ true = simp e in upto_not (key s l b) (key t l' b') first

-- ---- one out

weigh_last : (f : ℕ → Key) (n : ℕ) → 0 < n → (h : Key → ℕ) → weigh h f n ≡ h (f (n - 1)) + weigh h f (n - 1)
unfolding weigh
weigh_last f n some h = let e : n ≡ suc (n - 1) = omega arith in ap (weigh h f) e

pub out_last : (f : ℕ → Key) (n : ℕ) (y : Key) → 0 < n → n - 1 ≡ 0 → f 0 ≡ y → Out f (n - 1) y (λ h. weigh h f n)
out_last f n y some e q =
    record {
      heap = record { order = λ j a b. absurd (omega arith) };
      weight = λ h. let r : h (f (n - 1)) ≡ h y = ap (λ (k : ℕ). h (f k)) e ∙ ap h q in omega (arith, weigh_last f n some h, r);
      first = λ j lt. absurd (omega arith);
    }

pub out_moved : (f₀ f : ℕ → Key) (n : ℕ) (y : Key) → 0 < n → Heap Upto f₀ n → f₀ 0 ≡ y → Heap Upto f (n - 1)
    → ((h : Key → ℕ) → weigh h f (n - 1) + h (f₀ 0) ≡ weigh h f₀ (n - 1) + h (f₀ (n - 1))) → Out f (n - 1) y (λ h. weigh h f₀ n)
out_moved f₀ f n y some p₀ q p w =
    record {
      heap = p;
      weight = λ h. omega (arith, w h, ap h q, weigh_last f₀ n some h);
      first = subst (λ (z : Key). Every (Upto z) f (n - 1)) q
          (stay (Upto (f₀ 0)) f₀ f (n - 1) (n - 1) (f₀ (n - 1)) (λ h. omega (arith, w h)) (root f₀ n p₀ (n - 1) (omega arith)) (λ j lt. root f₀ n p₀ j (omega arith)));
    }
