-- The judge on keys, by the numbers of the lines, is the judge of listings. Assumes nothing.
use mathlib.Core.Bool.{Bool, true, false, cond, ◌&&◌, ◌||◌}
use mathlib.Core.List.{List, [], ◌∷◌, map}
use mathlib.Core.Logic.{inl, inr}
use mathlib.Core.Path.{◌≡◌, refl, sym, ap, ap₂, ◌∙◌}
use Prim.Native.Nat.{ℕ, suc, ◌+◌, ◌<◌}
use native.Mathlib.Omega.{arith}
use native.Mathlib.Nat.{add-zero, zero-add}
use lib.Dec.{eqb}
use lib.IntN.{ℤ}
use lib.ListN.{length, get_or}
use Rattle.column.specs.Shape.{short}
use Rattle.paths.specs.Paths.{Path, same}
use Rattle.paths.specs.Stack.{Nodes, grow}
use Rattle.paths.specs.Tree.{Tree, Sound, is_full, nodes}
use Rattle.paths.specs.Search.{start, take_head, step}
use Rattle.paths.specs.Keys.{KeysOf}
use Rattle.paths.specs.Listings.{Verdict, accepted, wrong, is_first, left_by, answered, right, judge, judged}
use Rattle.paths.proofs.Booleans.{or_false}
use Rattle.paths.proofs.Prefixes.{same_equal}
use Rattle.paths.proofs.Invariant.{Invariant, start_invariant, step_invariant}
use Rattle.paths.proofs.Keys.{grow_keys, start_keys}
use Rattle.paths.proofs.Listings.{no_line_after_the_answer, right_before_the_answer, goes_on_after, names_the_line, ends_accepted, ends_early, step_leaves}
use Rattle.trellis.specs.Values.{Values, level_values}
use Rattle.trellis.specs.Order.{number, sum}
use Rattle.trellis.specs.Keys.{Key, key_of, key_nodes}
use Rattle.trellis.specs.Demand.{Search, trellis}
use Rattle.trellis.proofs.Demand.{trellis_sound}
use Rattle.trellis.proofs.Keys.{keys_of_trellis}
use Rattle.trellis.proofs.Short.{searchable}
use Rattle.search.specs.Outcomes.{TablesFor}
use Rattle.checker.specs.Lines.{line_of, listing_of}
use Rattle.checker.specs.Judging.{code_verdict, names, judge_keys, judged_keys}
use Rattle.std.specs.Prelude.{Option}
use Rattle.checker.proofs.Lines.{Fits, line_names}

module _ (t : Tree) (sound : Sound t) (vs : Values) (soft left right_masks : List ℕ) (keys : KeysOf t (key_nodes t.size vs soft left right_masks) (key_of vs soft)) (lengths numbers : List ℕ) where
  abbrev N : Nodes Key
  N = key_nodes t.size vs soft left right_masks

  abbrev judges : ℕ → ℕ → Bool → List Key → Verdict
  judges = judge_keys N lengths numbers

  -- what is listed from line k on
  record From (k : ℕ) (ls bs : List ℕ) : Type 0 where
    both : length ls ≡ length bs
    lengths_from : (i : ℕ) → get_or ls i 0 ≡ get_or lengths (k + i) 0
    bits_from : (i : ℕ) → get_or bs i 0 ≡ get_or numbers (k + i) 0

  next : (k len b : ℕ) (ls bs : List ℕ) → From k (len ∷ ls) (b ∷ bs) → From (suc k) ls bs
  next k len b ls bs from = record {
    both = omega (arith, from.both);
    lengths_from = λ i. from.lengths_from (suc i) ∙ ap (λ (j : ℕ). get_or lengths j 0) (moved i);
    bits_from = λ i. from.bits_from (suc i) ∙ ap (λ (j : ℕ). get_or numbers j 0) (moved i);
  }
    where
      moved : (i : ℕ) → k + suc i ≡ suc k + i
      moved i = omega arith

  judge_on_keys : (ls bs : List ℕ) (k : ℕ) → From k ls bs → (taken stack : List Path) → Invariant t taken stack → left_by t taken ≡ stack → length taken ≡ k
      → judge t taken (listing_of t.size ls bs) ≡ judges (length ls) k (answered t taken) (map (key_of vs soft) stack)
  unfolding judge_keys listing_of is_first names key_of answered step take_head
  judge_on_keys [] bs k from taken stack i e c = go (answered t taken) refl
    where
      go : (a : Bool) → answered t taken ≡ a → judge t taken [] ≡ cond a accepted (wrong (suc k))
      go true h = ends_accepted t taken h
      go false h = ends_early t taken h ∙ ap (λ (j : ℕ). wrong (suc j)) c
  judge_on_keys (len ∷ ls) [] k from taken stack i e c = absurd (omega (arith, from.both))
  judge_on_keys (len ∷ ls) (b ∷ bs) k from taken [] i e c = names_the_line t taken line (listing_of t.size ls bs) (go (answered t taken) refl) ∙ ap (λ (j : ℕ). wrong (suc j)) c
    where
      line : Path
      line = line_of t.size len b

      go : (a : Bool) → answered t taken ≡ a → right t taken line ≡ false
      go true h = no_line_after_the_answer t taken h line
      go false h = right_before_the_answer t taken h line ∙ ap (is_first line) e
  judge_on_keys (len ∷ ls) (b ∷ bs) k from taken (q ∷ rest) i e c =
      go (answered t taken) refl
      (judge_on_keys ls bs (suc k) (next k len b ls bs from) (q ∷ taken) (grow (nodes t) q rest) (step_invariant t sound (record { taken = taken; stack = q ∷ rest }) i) (step_leaves t taken rest q e) (ap suc c))
    where
      line : Path
      line = line_of t.size len b

      there : Fits t.size q
      there = let x = i.there q (inr (inl refl)) in (x.some_bit, sound.short q x.in_tree)

      -- the line is the first path exactly if it has its key's numbers
      named : same line q ≡ names lengths numbers k (key_of vs soft q)
      named =
          line_names t.size len b q there
          ∙ ap₂ (λ (l x : ℕ). eqb l (length q) && eqb x (number q)) (from.lengths_from 0 ∙ ap (λ (j : ℕ). get_or lengths j 0) (add-zero k)) (from.bits_from 0 ∙ ap (λ (j : ℕ). get_or numbers j 0) (add-zero k))

      goes_on : Verdict
      goes_on = judges (length ls) (suc k) (N.full (key_of vs soft q)) (grow N (key_of vs soft q) (map (key_of vs soft) rest))

      named_wrong : right t taken line ≡ false → judge t taken (line ∷ listing_of t.size ls bs) ≡ wrong (suc k)
      named_wrong r = names_the_line t taken line (listing_of t.size ls bs) r ∙ ap (λ (j : ℕ). wrong (suc j)) c

      go : (a : Bool) → answered t taken ≡ a
          → judge t (q ∷ taken) (listing_of t.size ls bs) ≡ judges (length ls) (suc k) (answered t (q ∷ taken)) (map (key_of vs soft) (grow (nodes t) q rest))
          → judge t taken (line ∷ listing_of t.size ls bs) ≡ cond a (wrong (suc k)) (cond (names lengths numbers k (key_of vs soft q)) goes_on (wrong (suc k)))
      go true h ih = named_wrong (no_line_after_the_answer t taken h line)
      go false h ih = first (same line q) refl ∙ ap (λ (x : Bool). cond x goes_on (wrong (suc k))) named
        where
          is_right : right t taken line ≡ same line q
          is_right = right_before_the_answer t taken h line ∙ ap (is_first line) e

          full : answered t (q ∷ taken) ≡ N.full (key_of vs soft q)
          full = ap (λ (a : Bool). is_full t q || a) h ∙ or_false (is_full t q) ∙ sym (keys.same_full q)

          first : (x : Bool) → same line q ≡ x → judge t taken (line ∷ listing_of t.size ls bs) ≡ cond x goes_on (wrong (suc k))
          first true is =
              goes_on_after t taken line (listing_of t.size ls bs) (is_right ∙ is)
              ∙ ap (λ (p : Path). judge t (p ∷ taken) (listing_of t.size ls bs)) (same_equal line q is)
              ∙ ih
              ∙ ap₂ (judges (length ls) (suc k)) full (grow_keys t N (key_of vs soft) keys sound q rest (i.there q (inr (inl refl))))
          first false is = named_wrong (is_right ∙ is)

  -- from the first line on
  judged_on_keys : length lengths ≡ length numbers → judged t (listing_of t.size lengths numbers) ≡ judged_keys N lengths numbers
  unfolding judged_keys start left_by answered key_of sum number
  judged_on_keys both =
      judge_on_keys lengths numbers 0 (record { both = both; lengths_from = λ i. ap (λ (j : ℕ). get_or lengths j 0) (sym (zero-add i)); bits_from = λ i. ap (λ (j : ℕ). get_or numbers j 0) (sym (zero-add i)) }) [] (start t).stack (start_invariant t sound) refl refl
      ∙ ap (judges (length lengths) 0 false) (start_keys t N (key_of vs soft) keys sound)

-- of either search of the short page's columns, by its tables
pub judged_short : (s : Search) (i : ℕ) → i < 4 → (soft left right lengths numbers : List ℕ) (table : List ℤ) → TablesFor s i left right table → length numbers ≡ length lengths → (r : Option ℕ)
    → r ≡ code_verdict (judged_keys (key_nodes 30 (level_values i) soft left right) lengths numbers) → r ≡ code_verdict (judged (trellis s short (level_values i) soft i) (listing_of 30 lengths numbers))
judged_short s i h soft left right lengths numbers table tables both r e =
    e ∙ ap code_verdict (sym (judged_on_keys (trellis s short (level_values i) soft i) (trellis_sound short i (searchable i h) (level_values i) soft s) (level_values i) soft left right
    (keys_of_trellis short i (searchable i h) (level_values i) soft left right s tables.masks) lengths numbers (sym both)))
