-- shown: what the code found, without where it lies in memory.
use Rattle.hold_vlex.specs.Front.{Front, Nothing, Past, Read, Bad, NoEnd, NoName}
use Rattle.hold_vlex.specs.declared.found.Found.{Found}
use Rattle.hold_vlex.specs.declared.found.Found.TheVariants.{Nothing as FoundNothing, Past as FoundPast, Read as FoundRead, Bad as FoundBad, NoEnd as FoundNoEnd, NoName as FoundNoName}

abbrev pub shown : Found → Front
shown FoundNothing = Nothing
shown (FoundPast n) = Past n
shown (FoundRead sort text n) = Read sort text.now n
shown (FoundBad n) = Bad n
shown FoundNoEnd = NoEnd
shown FoundNoName = NoName
