-- shown s: a symbol of the program without where its text lies in memory.
use Rattle.hold_base.specs.Digits.{number_of}
use Rattle.hold_vsyntax.specs.declared.symbol.Symbol.{Symbol as Found}
use Rattle.hold_vsyntax.specs.declared.symbol.Symbol.TheVariants.{Mark as FoundMark, Name as FoundName, Number as FoundNumber, Constant as FoundConstant, Strange as FoundStrange}
use Rattle.hold_vsyntax.specs.Symbols.{Symbol, Marked, Named, Counted, Tied, Strange, ident}

abbrev pub shown : Found → Symbol
shown (FoundMark m) = Marked m
shown (FoundName name at) = Named (ident name.now at)
shown (FoundNumber digits) = Counted (number_of digits.text.now)
shown (FoundConstant value) = Tied value
shown FoundStrange = Strange
