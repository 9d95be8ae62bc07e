-- What a reading answers.
use Rattle.std.specs.Prelude.{◌≡◌, ⊤, Result, Ok, Err}
use Rattle.s3_names.specs.declared.fault.NameFault.{NameFault}
use Rattle.s3_names.specs.declared.fault.NameFault.TheVariants.{BadBucket, EmptyKey, LongKey, NotUtf8, BadEscape, Memory}

-- the answer is the one that is expected, or memory ran out
abbrev pub Gives : {T : Type 0} → Result T NameFault → Result T NameFault → Type 0
Gives (Ok value) due = due ≡ Ok value
Gives (Err BadBucket) due = due ≡ Err BadBucket
Gives (Err EmptyKey) due = due ≡ Err EmptyKey
Gives (Err LongKey) due = due ≡ Err LongKey
Gives (Err NotUtf8) due = due ≡ Err NotUtf8
Gives (Err BadEscape) due = due ≡ Err BadEscape
Gives (Err Memory) due = ⊤
