-- For the code's contracts: the answers of the calls on a store of held searches, as C gets them. Assumes nothing.
use Rattle.std.specs.Prelude.{List, ◌≡◌, ℕ}
use Rattle.store_held.specs.Calls.{HoldCall, TakeCall}
use Rattle.store_held.specs.declared.HeldAnswer.{HeldAnswer}
use Rattle.store_held.specs.declared.Store.{Store}
use Rattle.entries.specs.Told.{found_of}
use Rattle.held_entries.specs.declared.HeldFound.{HeldFound}

abbrev pub held_found_of : HeldAnswer → HeldFound
held_found_of o = record { found = found_of o.answer; store = o.store }

-- a first call told r
pub record HoldReplied (s : Store) (name : ℕ) (soft : List ℕ) (level limit : ℕ) (r : HeldFound) : Type 0 where
  pub outcome : HeldAnswer
  pub call : HoldCall s name soft level limit outcome
  pub told : r ≡ held_found_of outcome

-- taking up told r
pub record TakeReplied (s : Store) (name limit : ℕ) (r : HeldFound) : Type 0 where
  pub outcome : HeldAnswer
  pub call : TakeCall s name limit outcome
  pub told : r ≡ held_found_of outcome
