-- Two runs of the search, the second from where the first stands, are list of two on keys. Assumes nothing.
use mathlib.Core.Bool.{Bool, true, false, cond}
use mathlib.Core.List.{List, []}
use mathlib.Core.Logic.{◌⊎◌, inl, inr}
use mathlib.Core.Path.{◌≡◌, refl, sym, ap, ap₂, ◌∙◌}
use Prim.Native.Nat.{ℕ, ◌+◌, ◌-◌, ◌≤◌, ◌<◌}
use native.Mathlib.Omega.{arith}
use lib.IntN.{ℤ, pos}
use lib.Signed.{lt_z}
use mir.Syntax.{w16}
use mir.Val.{SFits, to_z, of_z}
use Rattle.paths.specs.Stack.{Nodes, grow}
use Rattle.paths.specs.Search.{SearchResult, answer, spent}
use Rattle.paths.specs.Keys.{WithLow, run_keys, stack_after, low_after}
use Rattle.paths.specs.TwoWords.{one_word, after_first, after_second, returned, larger}
use Rattle.heap.specs.Holds.{Holds}
use Rattle.trellis.specs.Values.{Values}
use Rattle.trellis.specs.Keys.{Key, key, key_nodes, none_taken, key_search}
use Rattle.trellis.specs.TwoWords.{key_search_on, key_search_two}
use Rattle.trellis.proofs.Strict.{strict_int}
use Rattle.stack.specs.Places.{Upto}
use Rattle.stack.proofs.Sums.{lt_flag}
use Rattle.search.specs.Progress.{Going, Answered, Ended, Reached}
use Rattle.search.specs.Outcomes.{outcome_of}
use Rattle.std.specs.Prelude.{Option, None, Some}
use Rattle.search.specs.declared.Found.{Found}
use Rattle.search.proofs.Continues.{start_grows, word_is_taken, answer_is, spent_is}

-- a number as a signed local hands it on
abbrev handed : ℤ → ℤ
handed z = to_z w16 (of_z w16 z)

-- what a search is asked
pub record Task : Type 0 where
  pub n : ℕ
  pub vs : Values
  pub soft : List ℕ
  pub left : List ℕ
  pub right : List ℕ
  pub threshold : ℤ
  pub limit : ℕ

abbrev pub K : Task → Nodes Key
K g = key_nodes g.n g.vs g.soft g.left g.right

-- the first search, the second one after c paths, and what is returned
abbrev once : Task → SearchResult (WithLow Key)
once g = key_search g.n g.vs g.soft g.left g.right g.limit

abbrev further : Task → ℕ → SearchResult (WithLow Key)
further g = key_search_on g.n g.vs g.soft g.left g.right g.limit

abbrev two : Task → SearchResult (WithLow Key)
two g = key_search_two g.n g.vs g.soft g.left g.right g.threshold g.limit

-- what a first run came to
pub record First (g : Task) (f : ℕ → Key) (m c : ℕ) (y : Key) (z : ℤ) : Type 0 where
  pub some : 0 < g.n
  pub threshold_fits : SFits w16 g.threshold
  pub sum_fits : SFits w16 y.sum
  pub reached : Reached (K g) g.n g.limit f 0 (key (pos 0) 0 0) none_taken [] m c y z

-- where a search stands: how many paths are on the stack, how many were taken, the last of them, and their lowest sum
pub record At : Type 0 where
  pub paths : ℕ
  pub count : ℕ
  pub last : Key
  pub low : ℤ

abbrev pub at_start : At
at_start = record { paths = 0; count = 0; last = key (pos 0) 0 0; low = none_taken }

-- a first word is taken, and its sum is below the threshold
pub record Taken (g : Task) (f : ℕ → Key) (s : At) : Type 0 where
  pub first : First g f s.paths s.count s.last s.low
  pub full : s.last.len ≡ g.n
  pub below : lt_z (handed s.last.sum) (handed g.threshold) ≡ true

-- before a run: nothing is taken, or the first word, whatever the values are
abbrev pub Before : (Values → Type 0) → (Values → Task) → (ℕ → Key) → At → Type 0
Before Given task f s = (s ≡ at_start) ⊎ ((vs : Values) → Given vs → Taken (task vs) f s)

module _ {Given : Values → Type 0} {task : Values → Task} {f : ℕ → Key} {s : At} (before : Before Given task f s) (vs : Values) (given : Given vs) where
  pub at_the_start : (s.last.len ≡ (task vs).n → ⊥) → s ≡ at_start
  at_the_start partial = go before
    where
      go : Before Given task f s → s ≡ at_start
      go (inl e) = e
      go (inr t) = absurd (partial (t vs given).full)

  pub after_a_word : 0 < (task vs).n → s.last.len ≡ (task vs).n → Taken (task vs) f s
  after_a_word some full = go before
    where
      go : Before Given task f s → Taken (task vs) f s
      go (inl e) = absurd (omega (arith, some, full, ap (λ (x : At). x.last.len) e))
      go (inr t) = t vs given

-- what a second run came to, after a word whose sum is below the threshold
pub record Second (g : Task) (f : ℕ → Key) (m c : ℕ) (y : Key) (z : ℤ) (f' : ℕ → Key) (m' c' : ℕ) (y' : Key) (z' : ℤ) : Type 0 where
  pub taken : Taken g f (record { paths = m; count = c; last = y; low = z })
  pub sum_fits : SFits w16 y'.sum
  pub reached : (xs : List Key) → Holds Upto f m xs → Reached (K g) g.n g.limit f' c y z xs m' c' y' z'

-- a word found, as the code has it
abbrev found : ℕ → ℕ → ℤ → Option Found
found w c z = Some (record { word = w; count = c; low = z })

-- an outcome is not both
never : {X : Type 0} (w c : ℕ) (z : ℤ) → None ≡ found w c z → X
never w c z e = let no : ◌≡◌ {A = ℕ} 0 1 = cc in absurd (omega arith)

abbrev by_sum : WithLow Key → ℤ
by_sum k = k.key.sum

abbrev always : Key → Bool
always k = true

-- a path with the lowest sum so far
abbrev with_low : Key → ℤ → WithLow Key
with_low y z = record { key = y; low = z }

module _ {g : Task} {f : ℕ → Key} {m c : ℕ} {y : Key} {z : ℤ} where
  module _ (a : First g f m c y z) where
    -- no first word
    pub none_is : (y.len ≡ g.n → ⊥) → None ≡ outcome_of (two g)
    unfolding key_search_two after_first returned outcome_of
    none_is partial = go (once g) (spent_is g.n g.limit g.vs g.soft g.left g.right f m c y z a.some a.reached partial)
      where
        go : (o : SearchResult (WithLow Key)) → None ≡ outcome_of o → None ≡ outcome_of (returned by_sum g.limit (after_first by_sum g.threshold (further g) o))
        go (answer k d) e = never k.key.bits d k.low e
        go (spent d) e = refl

    -- after the first word
    by_threshold : {t : Bool} → y.len ≡ g.n → lt_z (handed y.sum) (handed g.threshold) ≡ t → two g ≡ returned by_sum g.limit (cond t (after_second (with_low y z) (further g c)) (one_word (with_low y z) c))
    unfolding key_search_two after_first
    by_threshold full e =
        ap (λ (o : SearchResult (WithLow Key)). returned by_sum g.limit (after_first by_sum g.threshold (further g) o)) (answer_is g.n g.limit g.vs g.soft g.left g.right f m c y z a.some a.reached full)
        ∙ ap (λ (t : Bool). returned by_sum g.limit (cond t (after_second (with_low y z) (further g c)) (one_word (with_low y z) c))) (lt_flag y.sum g.threshold a.sum_fits a.threshold_fits e)

    -- its sum is not below the threshold
    pub one_is : y.len ≡ g.n → lt_z (handed y.sum) (handed g.threshold) ≡ false → found y.bits c z ≡ outcome_of (two g)
    unfolding outcome_of returned
    one_is full e = sym (ap outcome_of (by_threshold full e))

  module _ {f' : ℕ → Key} {m' c' : ℕ} {y' : Key} {z' : ℤ} (b : Second g f m c y z f' m' c' y' z') where
    -- the word that the first run took
    first : Answered (K g) g.n g.limit f 0 (key (pos 0) 0 0) none_taken [] m c y z
    first = word_is_taken g.n g.limit g.vs g.soft g.left g.right f m c y z b.taken.first.some b.taken.first.reached b.taken.full

    -- the second search goes on from where the first stands
    further_is : further g c ≡ run_keys (K g) always (g.limit - c) c z (grow (K g) y first.rest)
    unfolding key_search_on first
    further_is =
        let steps : c - 0 ≡ c = omega arith in
        let grown = start_grows g.n g.vs g.soft g.left g.right b.taken.first.some in
        ap₂ (run_keys (K g) always (g.limit - c) c) (sym (first.low_is ∙ ap₂ (λ (k : ℕ). low_after (K g) k none_taken) steps grown)) (sym (first.stack ∙ ap₂ (stack_after (K g)) steps grown))

    -- a second word; or none, and the last path taken is no word or still the first, the limit being reached
    abbrev Came : Type 0
    Came = ((y'.len ≡ g.n) × (further g c ≡ answer (with_low y' z') c')) ⊎ (((y'.len < g.n) ⊎ ((y' ≡ y) × (c' ≡ g.limit))) × (d : ℕ) × (further g c ≡ spent d))

    came : Came
    unfolding run_keys
    came = go (b.reached first.rest first.holds).way
      where
        at_limit : g.limit ≤ c' → (c' ≤ g.limit) ⊎ (c' ≡ c) → c' ≡ g.limit
        at_limit h (inl w) = omega arith
        at_limit h (inr w) = omega (arith, first.within)

        short : c' ≡ g.limit → (y'.len < g.n) ⊎ (y' ≡ y) → (y'.len < g.n) ⊎ ((y' ≡ y) × (c' ≡ g.limit))
        short e (inl h) = inl h
        short e (inr h) = inr ((h, e))

        -- the second search is the run, in two parts
        parts : (fuel : ℕ) → g.limit - c ≡ fuel + (c' - c) → further g c ≡ run_keys (K g) always (fuel + (c' - c)) c z (grow (K g) y first.rest)
        parts fuel e = further_is ∙ ap (λ (k : ℕ). run_keys (K g) always k c z (grow (K g) y first.rest)) e

        go : ((g.limit ≤ c') × Going (K g) g.n g.limit f' c y z first.rest m' c' y' z') ⊎ (Answered (K g) g.n g.limit f' c y z first.rest m' c' y' z' ⊎ Ended (K g) g.n g.limit f' c y z first.rest m' c' y' z') → Came
        go (inl (h, a)) =
            let all : c' ≡ g.limit = at_limit h a.within in
            inr ((short all a.partial, c', parts 0 (omega (arith, all)) ∙ a.same always 0))
        go (inr (inl a)) = inl ((a.full, parts (g.limit - c') (omega (arith, a.within, a.later)) ∙ a.same always (g.limit - c')))
        go (inr (inr e)) = inr ((inl (omega (arith, e.none, b.taken.first.some)), c', parts (g.limit - c') (omega (arith, e.within, e.later)) ∙ e.same always (g.limit - c')))

    -- what the second search came to, returned
    by_second : {o : SearchResult (WithLow Key)} → further g c ≡ o → outcome_of (returned by_sum g.limit (after_second (with_low y z) o)) ≡ outcome_of (two g)
    by_second e = sym (ap outcome_of (by_threshold b.taken.first b.taken.full b.taken.below ∙ ap (λ (x : SearchResult (WithLow Key)). returned by_sum g.limit (after_second (with_low y z) x)) e))

    -- no second word
    pub ended_is : (y'.len ≡ g.n → ⊥) → found y.bits g.limit z ≡ outcome_of (two g)
    unfolding outcome_of returned after_second
    ended_is partial = go came
      where
        go : Came → found y.bits g.limit z ≡ outcome_of (two g)
        go (inl s) = absurd (partial s.0)
        go (inr s) = by_second s.2

    -- two words, returned
    by_sum_lem : {t : Bool} → lt_z (handed y.sum) (handed y'.sum) ≡ t → further g c ≡ answer (with_low y' z') c' → outcome_of (answer (cond t (with_low y' z') (with_low y z)) c') ≡ outcome_of (two g)
    unfolding returned after_second larger
    by_sum_lem e k =
        ap (λ (t : Bool). outcome_of (answer (cond t (with_low y' z') (with_low y z)) c')) (sym (lt_flag y.sum y'.sum b.taken.first.sum_fits b.sum_fits e)) ∙ by_second k

    -- the second word has the larger sum
    pub second_is : y'.len ≡ g.n → lt_z (handed y.sum) (handed y'.sum) ≡ true → found y'.bits c' z' ≡ outcome_of (two g)
    unfolding outcome_of
    second_is full e = go came
      where
        go : Came → found y'.bits c' z' ≡ outcome_of (two g)
        go (inl s) = by_sum_lem e s.1
        go (inr (inl h, d, s)) = absurd (omega arith)
        go (inr (inr h, d, s)) = absurd (strict_int.irreflexive y.sum (ap (λ (k : Key). lt_z y.sum k.sum) (sym h.0) ∙ lt_flag y.sum y'.sum b.taken.first.sum_fits b.sum_fits e))

    -- it has not: the first word, also where no step was left
    pub first_is : y'.len ≡ g.n → lt_z (handed y.sum) (handed y'.sum) ≡ false → found y.bits c' z ≡ outcome_of (two g)
    unfolding outcome_of returned after_second
    first_is full e = go came
      where
        go : Came → found y.bits c' z ≡ outcome_of (two g)
        go (inl s) = by_sum_lem e s.1
        go (inr (inl h, d, s)) = absurd (omega arith)
        go (inr (inr h, d, s)) = ap (λ (k : ℕ). found y.bits k z) h.1 ∙ by_second s
