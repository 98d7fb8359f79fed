-- What one step of the code does to the list that the heap holds. Assumes nothing.
use Prim.Native.Nat.{ℕ, zero, suc, ◌+◌, ◌-◌, ◌*◌, ◌≤◌, ◌<◌}
use native.Mathlib.Omega.{arith}
use native.Mathlib.Nat.{pow-suc}
use mathlib.Core.Bool.{Bool, true, false, cond, ◌&&◌, not, true≢false, false≢true}
use mathlib.Core.List.{List, [], ◌∷◌}
use mathlib.Core.Path.{◌≡◌, refl, sym, ap, ap₂, ◌∙◌, subst⁻¹}
use lib.Dec.{eqb}
use lib.IntN.{ℤ, pos, nat_abs, ◌+ℤ◌}
use lib.ListN.{get_or}
use lib.Pow.{pow_mono}
use borrow.Author.Tests.{eqb-true, eq-eqb, ne_eqb}
use mir.Syntax.{w16}
use mir.Val.{SFits}
use Rattle.column.specs.Mask.{parity}
use Rattle.column.proofs.Parity.{parity_no_mask}
use Rattle.paths.specs.Stack.{Nodes, grow}
use Rattle.paths.proofs.Booleans.{and_both}
use Rattle.heap.specs.Heap.{weigh, Every}
use Rattle.heap.specs.Holds.{weigh_list}
use Rattle.heap.proofs.Lists.{out_kept, first_is_head}
use Rattle.trellis.specs.Order.{bit}
use Rattle.trellis.specs.Keys.{Key, key, key_passes}
use Rattle.trellis.proofs.Order.{bit_below}
use Rattle.std.specs.Prelude.{Option, None, Some}
use Rattle.stack.specs.declared.Path.{Path}
use Rattle.stack.specs.Places.{path_key, Upto, Small, Out, Next}
use Rattle.extension.specs.Steps.{Given, Good, Held, table_extension, table_nodes, Advanced}
use Rattle.stack.proofs.KeyOrder.{key_dec, upto_same, upto_anti, upto_trans}
use Rattle.stack.proofs.Outs.{stay}
use Rattle.trellis.proofs.Sums.{add_near}
use Rattle.stack.proofs.Sums.{near_fits}
use Rattle.extension.proofs.NextBit.{check, let_in, dead_in, asked_in}
use Rattle.extension.proofs.Growing.{ordered_grow, weigh_full, weigh_none, weigh_one, weigh_both}

-- ---- keys

pub good_small : (n : ℕ) (k : Key) → n ≤ 42 → Good n k → Small k
good_small n k h g = record { len = omega (arith, g.short); bits = omega (arith, g.small, pow_mono {i = k.len} {j = 42} (omega (arith, g.short))) }

pub good_none : (n : ℕ) → Good n (key (pos 0) 0 0)
good_none n = record { short = omega arith; small = omega arith; near = omega arith }

went : (P : Key → Type 0) (f : ℕ → Key) (n : ℕ) (x y : Key) → ((h : Key → ℕ) → h y ≤ weigh h f n + h x) → P x → Every P f n → P y
went = out_kept Upto key_dec upto_same upto_anti upto_trans

pub risen_held : (n : ℕ) (f₀ f : ℕ → Key) (k : ℕ) (x : Key) → ((h : Key → ℕ) → weigh h f (k + 1) ≡ weigh h f₀ k + h x) → Held n x → Every (Held n) f₀ k → Every (Held n) f (k + 1)
risen_held n f₀ f k x w hx p = stay (Held n) f₀ f k (k + 1) x (λ h. omega (arith, w h)) hx p

empty_list : (xs : List Key) → weigh_list (λ z. 1) xs ≡ 0 → xs ≡ []
unfolding weigh_list
empty_list [] e = refl
empty_list (x ∷ xs) e = absurd (omega (arith, e))

-- a bit as the code has it
abbrev pub flag : ℕ → Bool
flag zero = false
flag (suc k) = true

pub flag_other : (t u : ℕ) → t < 2 → u ≡ 1 - t → flag t ≡ flag u → ⊥
flag_other zero zero h e k = omega arith
flag_other zero (suc u) h e k = false≢true k
flag_other (suc zero) zero h e k = true≢false k
flag_other (suc zero) (suc u) h e k = omega arith
flag_other (suc (suc t)) u h e k = omega arith

module _ (n : ℕ) (soft left right : List ℕ) (table : List ℤ) (g : Given n soft left right table) where
  abbrev pub N : Nodes Key
  N = table_nodes n table soft left right

  abbrev pub E : Bool → Key → Key
  E = table_extension table soft

  -- ---- the extension by a bit

  pub entry_near : (l t : ℕ) → l < n → t < 2 → nat_abs (get_or table (t * 8 + get_or soft l 0) (pos 0)) ≤ 60
  entry_near l t h ht = g.near (t * 8 + get_or soft l 0) (omega (arith, g.soft l h))

  pub sum_near : (p : Key) (v : ℤ) (t : ℕ) → p.len < n → t < 2 → Good n p → v ≡ get_or table (t * 8 + get_or soft p.len 0) (pos 0) → SFits w16 (p.sum +ℤ v)
  sum_near p v t h ht g' e = near_fits (p.sum +ℤ v) (omega (arith, add_near p.sum v, g'.near, g'.short, g.most, ap nat_abs e, entry_near p.len t h ht))

  pub extension_is : (p : Key) (v : ℤ) (t : ℕ) → t < 2 → v ≡ get_or table (t * 8 + get_or soft p.len 0) (pos 0) → key (p.sum +ℤ v) (suc p.len) (p.bits * 2 + t) ≡ E (flag t) p
  unfolding table_extension
  extension_is p v zero h e = ap (λ (x : ℤ). key (p.sum +ℤ x) (suc p.len) (p.bits * 2 + 0)) e
  extension_is p v (suc zero) h e = ap (λ (x : ℤ). key (p.sum +ℤ x) (suc p.len) (p.bits * 2 + 1)) e
  extension_is p v (suc (suc t)) h e = absurd (omega arith)

  pub held_extension : (p : Key) (t : Bool) → p.len < n → Good n p → Held n (E t p)
  unfolding table_extension
  held_extension p t h q =
      record {
        good = record {
          short = omega arith;
          small = rw pow-suc (omega (arith, q.small, bit_below t));
          near = omega (arith, add_near p.sum (get_or table (bit t * 8 + get_or soft p.len 0) (pos 0)), entry_near p.len (bit t) h (bit_below t), q.near);
        };
        some = omega arith;
      }

  -- ---- a step

  advanced_out : (f₀ f : ℕ → Key) (k m : ℕ) (p : Key) (y : Path) (gain : (Key → ℕ) → ℕ) → m ≤ k + 1
      → ((h : Key → ℕ) (xs : List Key) → weigh_list h (grow N p xs) ≡ weigh_list h xs + gain h)
      → Out f m (path_key y) (λ h. weigh h f₀ k + gain h) → Every (Held n) f m → Held n (path_key y) → Advanced N n f₀ f k m p (Some y)
  advanced_out f₀ f k m p y gain few w o hf hy =
      record {
        few = few;
        heap = o.heap;
        held = hf;
        taken = hy;
        lists = λ xs q.
            first_is_head Upto key_dec upto_same upto_anti upto_trans f m (path_key y) (grow N p xs) o.heap o.first (ordered_grow E (key_passes left right) (λ z. eqb z.len n) p xs q.ordered) (λ h. omega (arith, o.weight h, q.equal h, w h xs));
      }

  -- no extension goes in
  advanced_next : (f₀ f : ℕ → Key) (k m : ℕ) (p : Key) (y : Option Path) → Every (Held n) f₀ k
      → ((h : Key → ℕ) (xs : List Key) → weigh_list h (grow N p xs) ≡ weigh_list h xs) → Next f₀ f k m y → Advanced N n f₀ f k m p y
  unfolding weigh weigh_list
  advanced_next f₀ f k m p None held w (ek, em) =
      record {
        few = omega arith;
        heap = record { order = λ j a b. absurd (omega arith) };
        held = λ j lt. absurd (omega arith);
        taken = em;
        lists = λ xs r. empty_list (grow N p xs) (w (λ z. 1) xs ∙ sym (r.equal (λ z. 1)) ∙ ap (weigh (λ z. 1) f₀) ek);
      }
  advanced_next f₀ f k m p (Some y) held w (some, em, o) =
      advanced_out f₀ f k m p y (λ h. 0) (omega arith) (λ h xs. omega (arith, w h xs)) (record { heap = o.heap; weight = λ h. omega (arith, o.weight h); first = o.first })
      (stay (Held n) f₀ f k m (f₀ 0) (λ h. omega (arith, o.weight h)) (held 0 some) held)
      (went (Held n) f₀ k (f₀ 0) (path_key y) (λ h. omega (arith, o.weight h)) (held 0 some) held)

  pub advanced_full : (f₀ f : ℕ → Key) (k m : ℕ) (p : Key) (y : Option Path) → p.len ≡ n → Every (Held n) f₀ k → Next f₀ f k m y → Advanced N n f₀ f k m p y
  advanced_full f₀ f k m p y e held q = advanced_next f₀ f k m p y held (λ h xs. weigh_full E (key_passes left right) (λ z. eqb z.len n) h p xs (eq-eqb p.len n e)) q

  module _ (p : Key) (lt : p.len < n) (gp : Good n p) (f₀ f : ℕ → Key) (k : ℕ) (held : Every (Held n) f₀ k) where
    abbrev pub x : ℕ
    x = get_or left p.len 0

    abbrev pub y : ℕ
    y = get_or right p.len 0

    abbrev b : ℕ
    b = p.bits

    pub part : eqb p.len n ≡ false
    part = ne_eqb p.len n (omega arith)

    checks : (t : Bool) → key_passes left right (E t p) ≡ (eqb (parity x (b * 2 + bit t)) 0 && eqb (parity y (b * 2 + bit t)) 0)
    unfolding key_passes table_extension
    checks t =
        let e : suc p.len - 1 ≡ p.len = omega arith in
        ap (λ (i : ℕ). eqb (parity (get_or left i 0) (b * 2 + bit t)) 0 && eqb (parity (get_or right i 0) (b * 2 + bit t)) 0) e

    none : (m c : ℕ) → eqb m 0 ≡ true → eqb (parity m c) 0 ≡ true
    none m c h = eq-eqb (parity m c) 0 (ap (λ (i : ℕ). parity i c) (eqb-true m 0 h) ∙ parity_no_mask c)

    pub passes_free : (eqb x 0 && eqb y 0) ≡ true → (t : Bool) → key_passes left right (E t p) ≡ true
    passes_free h t =
        let e = and_both (eqb x 0) (eqb y 0) h in
        checks t ∙ ap₂ ◌&&◌ (none x (b * 2 + bit t) e.0) (none y (b * 2 + bit t) e.1)

    pub advanced_both : (f₁ : ℕ → Key) (t u : ℕ) (kt ku : Key) (r : Path) → (eqb x 0 && eqb y 0) ≡ true → t < 2 → u ≡ 1 - t
        → kt ≡ E (flag t) p → ku ≡ E (flag u) p
        → ((h : Key → ℕ) → weigh h f₁ (k + 1) ≡ weigh h f₀ k + h ku)
        → Out f (k + 1) (path_key r) (λ h. weigh h f₁ (k + 1) + h kt) → Advanced N n f₀ f k (k + 1) p (Some r)
    advanced_both f₁ t u kt ku r free ht eu et ek w o =
        let ht = subst⁻¹ (Held n) et (held_extension p (flag t) lt gp) in
        let h₁ = risen_held n f₀ f₁ k ku w (subst⁻¹ (Held n) ek (held_extension p (flag u) lt gp)) held in
        advanced_out f₀ f k (k + 1) p r (λ h. h kt + h ku) (omega arith)
        (λ h xs. weigh_both E (key_passes left right) (λ z. eqb z.len n) p part (flag t) (flag u) (passes_free free false) (passes_free free true) other h xs
        ∙ ap₂ (λ (i j : Key). weigh_list h xs + (h i + h j)) (sym et) (sym ek))
        (record { heap = o.heap; weight = λ h. omega (arith, o.weight h, w h); first = o.first })
        (stay (Held n) f₁ f (k + 1) (k + 1) kt (λ h. omega (arith, o.weight h)) ht h₁)
        (went (Held n) f₁ (k + 1) kt (path_key r) (λ h. omega (arith, o.weight h)) ht h₁)
      where
        other : flag t ≡ flag u → ⊥
        other = flag_other t u ht eu

    module _ (u v : ℕ) (eu : u ≡ parity x (b * 2)) (ev : v ≡ parity y (b * 2)) (hu : u < 2) (hv : v < 2) where
      pub passes : (t : ℕ) → t < 2 → key_passes left right (E (flag t) p) ≡ let_in (eqb x 0) (eqb y 0) u v t
      passes zero h = checks false ∙ ap₂ ◌&&◌ (check x b u (g.left p.len lt) eu 0 h) (check y b v (g.right p.len lt) ev 0 h)
      passes (suc zero) h = checks true ∙ ap₂ ◌&&◌ (check x b u (g.left p.len lt) eu 1 h) (check y b v (g.right p.len lt) ev 1 h)
      passes (suc (suc t)) h = absurd (omega arith)

      pub advanced_dead : (m : ℕ) (r : Option Path) → (not (eqb x 0) && (not (eqb y 0) && not (eqb u v))) ≡ true → Next f₀ f k m r → Advanced N n f₀ f k m p r
      advanced_dead m r apart q =
          let d = dead_in (eqb x 0) (eqb y 0) u v hu hv apart in
          advanced_next f₀ f k m p r held
          (weigh_none E (key_passes left right) (λ z. eqb z.len n) p part (passes 0 (omega arith) ∙ d.0) (passes 1 (omega arith) ∙ d.1)) q

      pub advanced_one : (t : ℕ) (kt : Key) (r : Path) → (eqb x 0 && eqb y 0) ≡ false → (not (eqb x 0) && (not (eqb y 0) && not (eqb u v))) ≡ false → t ≡ cond (eqb u 0) v 1
          → kt ≡ E (flag t) p → Out f k (path_key r) (λ h. weigh h f₀ k + h kt) → Advanced N n f₀ f k k p (Some r)
      advanced_one t kt r some apart et ek o =
          let hk = subst⁻¹ (Held n) ek (held_extension p (flag t) lt gp) in
          let one = asked_in x y b u v t eu ev hu hv some apart et in
          advanced_out f₀ f k k p r (λ h. h kt) (omega arith)
          (λ h xs. weigh_one E (key_passes left right) (λ z. eqb z.len n) p part (flag t) (flag (1 - t)) (passes t one.0 ∙ one.1) (passes (1 - t) (omega arith) ∙ one.2) (flag_other t (1 - t) one.0 refl) h xs
          ∙ ap (λ (i : Key). weigh_list h xs + h i) (sym ek))
          o
          (stay (Held n) f₀ f k k kt (λ h. omega (arith, o.weight h)) hk held)
          (went (Held n) f₀ k kt (path_key r) (λ h. omega (arith, o.weight h)) hk held)
