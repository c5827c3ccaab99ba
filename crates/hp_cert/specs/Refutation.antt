-- The text of a refutation: a line for each definition, for each line and for each node.
use Rattle.std.specs.Prelude.{ℕ, List, ◌++◌, codes}
use Rattle.std.specs.List.{flat_map}
use Rattle.std.specs.Fmt.{decimal}
use Rattle.hp_leaf.specs.declared.tree.Node.{Node}
use Rattle.hp_cert.specs.declared.refutation.Entry.{Entry}
use Rattle.hp_cert.specs.declared.refutation.Refutation.{Refutation}
use Rattle.hp_cert.specs.Trees.{node_text}

abbrev pub listed_def : Entry → List ℕ
listed_def entry = codes "def _" ++ decimal entry.number ++ codes " = " ++ entry.text ++ codes "\n"

abbrev pub listed_line : Entry → List ℕ
listed_line entry = codes "line " ++ decimal entry.number ++ codes " " ++ entry.text ++ codes "\n"

abbrev pub listed_node : Node → List ℕ
listed_node node = node_text node ++ codes "\n"

abbrev pub refutation_text : Refutation → List ℕ
refutation_text r = flat_map listed_def r.defs ++ flat_map listed_line r.lines ++ flat_map listed_node r.tree
