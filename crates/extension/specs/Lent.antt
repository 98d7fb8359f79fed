-- For the code's contracts: what a search is given, as the code lends it. Assumes nothing.
use Rattle.paths.specs.Stack.{Nodes}
use Rattle.trellis.specs.Keys.{Key}
use Rattle.extension.specs.Steps.{Given, table_nodes}
use Rattle.extension.specs.declared.Trellis.{Trellis}

abbrev pub GivenBy : Trellis → Type 0
GivenBy t = Given t.n t.col.now t.left.now t.right.now t.values.now

abbrev pub nodes_of : Trellis → Nodes Key
nodes_of t = table_nodes t.n t.values.now t.col.now t.left.now t.right.now
