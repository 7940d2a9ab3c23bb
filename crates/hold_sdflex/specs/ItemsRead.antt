-- word_read, group_read, item_read: the atom, the group, the item that a value of the program is.
use Rattle.hold_sdflex.specs.declared.items.Atom.{Atom as AtomRead}
use Rattle.hold_sdflex.specs.declared.items.Group.{Group as GroupRead}
use Rattle.hold_sdflex.specs.declared.items.Item.{Item as ItemRead}
use Rattle.hold_sdflex.specs.declared.items.Item.TheVariants.{Atom as AtomItem, Text as TextItem, Colon as ColonItem, Group as GroupItem}
use Rattle.hold_sdflex.specs.Items.{Word, Group, Item, Atom, Text, Colon, Nested}

abbrev pub word_read : AtomRead → Word
word_read a = record { at = a.at; bytes = a.bytes.now }

abbrev pub group_read : GroupRead → Group
group_read g = record { at = g.at; inner = g.inner }

abbrev pub item_read : ItemRead → Item
item_read (AtomItem a) = Atom (word_read a)
item_read TextItem = Text
item_read ColonItem = Colon
item_read (GroupItem g) = Nested (group_read g)
