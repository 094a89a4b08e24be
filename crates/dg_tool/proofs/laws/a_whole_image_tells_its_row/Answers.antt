use Rattle.dg_tool.proofs.PageLemmas.{name_whole, length_whole, bytes_whole}
use Rattle.dg_tool.proofs.laws.a_whole_image_tells_its_row.Goals as goal

pub returns-clause-name : goal.returns-clause-name
returns-clause-name c = name_whole

pub returns-clause-length : goal.returns-clause-length
returns-clause-length c = length_whole

pub returns-clause-bytes : goal.returns-clause-bytes
returns-clause-bytes c = bytes_whole
