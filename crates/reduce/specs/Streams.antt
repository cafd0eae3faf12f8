-- What the program does to its streams, as far as the bytes that they have are known.
use Rattle.std.specs.Prelude.{List, ℕ, Option, IfSome}
use Rattle.std.specs.Io.KnownBytes.{Appends}
use Rattle.stream.specs.Stream.{AppendsFront}
use Rattle.reduce.specs.Report.{report}

-- what the input gives is reported: the output is what it was before, and then the report of the whole input
abbrev pub Reported : Option (List ℕ) → Option (List ℕ) → Option (List ℕ) → Type 0
Reported input before after = IfSome input (λ bytes. Appends before after (report bytes))

-- the output broke off: it is what it was before, and then some front of the report of the whole input
abbrev pub ReportBegun : Option (List ℕ) → Option (List ℕ) → Option (List ℕ) → Type 0
ReportBegun input before after = IfSome input (λ bytes. AppendsFront before after (report bytes))
