-- The lines that the program puts, as contracts see them.
use Rattle.std.specs.Prelude.{map}
use Rattle.nbody_cli.specs.Lines.{LineItem, TextLine, Word, Number, Numbers, Signed, TreeLine, Words}
use Rattle.nbody_cli.specs.declared.lines.Item.{Item}
use Rattle.nbody_cli.specs.declared.lines.Item.TheVariants as item
use Rattle.nbody_cli.specs.declared.lines.Line.{Line}
use Rattle.nbody_cli.specs.declared.lines.Line.TheVariants as line
use Rattle.octree.specs.Stored.{tree_of}

abbrev pub item_of : Item → LineItem
item_of (item.Word word) = Word word.now
item_of (item.Number n) = Number n
item_of (item.Numbers list) = Numbers list.now
item_of (item.Signed z) = Signed z

abbrev pub line_of : Line → TextLine
line_of (line.Tree tree) = TreeLine (tree_of tree.now)
line_of (line.Words word items) = Words word.now (map item_of items.now)
