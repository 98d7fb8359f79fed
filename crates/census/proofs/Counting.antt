-- How many of a list have each ending: of lists put together, and that the three add up. Assumes nothing.
use mathlib.Core.Bool.{Bool, cond, decide, decide_iff}
use mathlib.Core.List.{List, [], ◌∷◌, ◌++◌, map}
use mathlib.Core.Path.{◌≡◌, refl, sym, ap, ◌∙◌}
use Prim.Native.Nat.{ℕ, suc, ◌+◌}
use native.Mathlib.Omega.{arith}
use lib.ListN.{length, length-append, length-map}
use Rattle.paths.specs.Lists.{Lists, filter}
use Rattle.paths.proofs.Lists.{filter_map, filter_append, of_filter, in_filter, filter_no_repeats, same_members_length}
use Rattle.census.specs.Census.{Ending, zero_word, other_word, spent_out, same_ending, number_of, totals, total, together}

module _ {A : Type 0} (ends : A → Ending) where
  number_append : (e : Ending) (xs ys : List A) → number_of ends e (xs ++ ys) ≡ number_of ends e xs + number_of ends e ys
  unfolding number_of
  number_append e xs ys = ap length (filter_append (λ x. decide (same_ending (ends x) e)) xs ys) ∙ simp length-append

  number_map : {B : Type 0} (f : B → A) (e : Ending) (xs : List B) → number_of ends e (map f xs) ≡ number_of (λ x. ends (f x)) e xs
  unfolding number_of
  number_map f e xs = ap length (filter_map (λ x. decide (same_ending (ends x) e)) f xs) ∙ simp length-map

  pub totals_append : (xs ys : List A) → totals ends (xs ++ ys) ≡ together (totals ends xs) (totals ends ys)
  unfolding totals
  totals_append xs ys = rw (number_append zero_word xs ys, number_append other_word xs ys, number_append spent_out xs ys)

  pub totals_map : {B : Type 0} (f : B → A) (xs : List B) → totals ends (map f xs) ≡ totals (λ x. ends (f x)) xs
  unfolding totals
  totals_map f xs = rw (number_map f zero_word xs, number_map f other_word xs, number_map f spent_out xs)

  -- each has one of the three endings
  pub totals_add_up : (xs : List A) → let t = totals ends xs in t.zero + t.other + t.spent ≡ length xs
  unfolding totals number_of filter decide
  totals_add_up [] = refl
  totals_add_up (x ∷ xs) = go (ends x) (totals_add_up xs)
    where
      next : Ending → Ending → ℕ
      next d e = length (cond (decide (same_ending d e)) (x ∷ filter (λ y. decide (same_ending (ends y) e)) xs) (filter (λ y. decide (same_ending (ends y) e)) xs))

      go : (d : Ending) → let t = totals ends xs in t.zero + t.other + t.spent ≡ length xs → next d zero_word + next d other_word + next d spent_out ≡ suc (length xs)
      go zero_word ih = omega (arith, ih)
      go other_word ih = omega (arith, ih)
      go spent_out ih = omega (arith, ih)

  total_is : (e : Ending) (xs : List A) → total e (totals ends xs) ≡ number_of ends e xs
  unfolding totals
  total_is zero_word xs = refl
  total_is other_word xs = refl
  total_is spent_out xs = refl

  -- of a list that has each of what it lists once, those with an ending
  module _ (P : A → Type 0) (xs : List A) (listed : Lists P xs) (e : Ending) where
    abbrev ended : A → Bool
    ended x = decide (same_ending (ends x) e)

    pub those_with_an_ending : Lists (λ x. P x × (ends x ≡ e)) (filter ended xs)
    those_with_an_ending = record {
      once = filter_no_repeats ended xs listed.once;
      exactly = λ x. (
        λ m. let r = of_filter ended xs x m in ((listed.exactly x).0 r.0, (decide_iff (same_ending (ends x) e)).0 r.1),
        λ h. in_filter ended xs x ((listed.exactly x).1 h.0) ((decide_iff (same_ending (ends x) e)).1 h.1),
      );
    }

    -- they are as many as the total says
    pub total_counts : (ys : List A) → Lists (λ x. P x × (ends x ≡ e)) ys → length ys ≡ total e (totals ends xs)
    unfolding number_of
    total_counts ys those =
        same_members_length ys (filter ended xs) those.once those_with_an_ending.once
        (λ x m. (those_with_an_ending.exactly x).1 ((those.exactly x).0 m)) (λ x m. (those.exactly x).1 ((those_with_an_ending.exactly x).0 m))
        ∙ sym (total_is e xs)
