-- seen_role role: what the program's word for a role means.
use Rattle.hold_vparse.specs.declared.mentions.Role.{Role as Told}
use Rattle.hold_vparse.specs.declared.mentions.Role.TheVariants.{ListsPort as TellsListsPort, DeclaresPort as TellsDeclaresPort, GivesDirection as TellsGivesDirection, DeclaresWire as TellsDeclaresWire, DeclaresInstance as TellsDeclaresInstance, UsesNet as TellsUsesNet}
use Rattle.hold_vparse.specs.DoubleNames.{Role, ListsPort, DeclaresPort, GivesDirection, DeclaresWire, DeclaresInstance, UsesNet}

abbrev pub seen_role : Told → Role
seen_role TellsListsPort = ListsPort
seen_role TellsDeclaresPort = DeclaresPort
seen_role TellsGivesDirection = GivesDirection
seen_role TellsDeclaresWire = DeclaresWire
seen_role TellsDeclaresInstance = DeclaresInstance
seen_role TellsUsesNet = UsesNet
