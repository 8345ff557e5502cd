-- What wrong digits of a frame make of a line.
use Rattle.frame.specs.declared.hex.HexFault.{HexFault}
use Rattle.frame.specs.declared.hex.HexFault.TheVariants.{OddLength, NotADigit as NotHexadecimal, NoMemory as NoRoom}
use Rattle.script.specs.declared.fault.LineError.{LineError}
use Rattle.script.specs.declared.fault.LineError.TheVariants.{NoMemory, Wrong}
use Rattle.script.specs.declared.fault.LineFault.TheVariants.{NotADigit, OddDigits}

-- Wrong digits are a fault of the line; without memory nothing is wrong with it.
abbrev pub of_digits : HexFault → LineError
of_digits OddLength = Wrong OddDigits
of_digits NotHexadecimal = Wrong NotADigit
of_digits NoRoom = NoMemory
