-- `store_listings::check_allowed` meets its contract: the tables are those of the search that the flag names, and the verdict is told. Assumes nothing.
use mathlib.Core.Path.{sym}
use Rattle.search.specs.Outcomes.{search_of}
use Rattle.search.proofs.ShortSearch.{column_searchable}
use Rattle.store_listings.proofs.Questions.{answered_as}
use Rattle.store_listings.proofs.check_allowed.Goals as goal

pub judge_column-verdict-requires : goal.judge_column-verdict-requires
judge_column-verdict-requires c =
    let allowed = c.requires in
    let given = c.trellis.ensures in record {
      lines = record { few = allowed.most; both = sym allowed.both };
      length = given.0;
      searchable30 = rw (given.1, given.2, given.3, given.4) (column_searchable (search_of c.args.in_supercodes) c.args.level allowed.level c.args.soft.now _ _ _ allowed.full allowed.range c.tables_of-tables.ensures);
    }

pub returns : goal.returns
returns c =
    let given = c.trellis.ensures in
    let verdict = c.judge_column-verdict.ensures (search_of c.args.in_supercodes) c.args.level c.requires.level (rw (given.2, given.3, given.4) c.tables_of-tables.ensures) in
    answered_as _ (rw given.1 at verdict)
