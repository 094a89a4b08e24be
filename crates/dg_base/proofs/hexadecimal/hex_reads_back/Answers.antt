use Rattle.dg_base.proofs.HexLemmas.{hex_bytes-hex_text, hex_bytes-some, hex_bytes-none}
use Rattle.dg_base.proofs.hexadecimal.hex_reads_back.Goals as goal

pub returns-clause-round : goal.returns-clause-round
returns-clause-round c bytes h = hex_bytes-hex_text bytes h

pub returns-clause-digits : goal.returns-clause-digits
returns-clause-digits c text bytes h = hex_bytes-some text bytes h

pub returns-clause-refused : goal.returns-clause-refused
returns-clause-refused c text h = hex_bytes-none text h
