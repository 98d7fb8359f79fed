-- For the code's contracts: the nodes of the specification's search, of what a search is lent. Assumes nothing.
use Rattle.paths.specs.Stack.{Nodes}
use Rattle.trellis.specs.Values.{Values}
use Rattle.trellis.specs.Keys.{Key, key_nodes}
use Rattle.extension.specs.declared.Trellis.{Trellis}

abbrev pub key_nodes_of : Values → Trellis → Nodes Key
key_nodes_of vs t = key_nodes t.n vs t.col.now t.left.now t.right.now
