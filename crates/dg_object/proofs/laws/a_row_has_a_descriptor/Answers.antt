use Rattle.std.proofs.Common.{refl}
use Rattle.dg_object.proofs.PageLemmas.{page_of_row-first, page_of_row-data}
use Rattle.dg_object.proofs.RowLemmas.{descriptor_of_row, crc_in-descriptor_page}
use Rattle.dg_object.proofs.laws.a_row_has_a_descriptor.Goals as goal

pub returns : goal.returns
returns c = record {
  first = λ row. page_of_row-first row 0 refl;
  others = page_of_row-data;
  described = descriptor_of_row;
  crcs = crc_in-descriptor_page;
}
