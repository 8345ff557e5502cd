use Rattle.frame.proofs.HexDigits.{hex_read_back}
use Rattle.frame.proofs.theorems.hexadecimal_text_is_read_back.Goals as goal

pub returns : goal.returns
returns c = hex_read_back
