use Rattle.std.proofs.Common.{[], length}
use Rattle.dg_object.proofs.RowLemmas.{pages_for-some, pages_for-most, length-object, get_or-object, length-page_of_row, AreBytes-page_of_row, content-object}
use Rattle.dg_object.proofs.laws.a_row_is_its_pages.Goals as goal

pub returns : goal.returns
returns c = record {
  some = λ row is. pages_for-some (length row.bytes) is.some;
  most = λ row is. pages_for-most (length row.bytes) is.fits;
  count = length-object;
  page = λ row p low. get_or-object row p [] low;
  long = length-page_of_row;
  bytes = AreBytes-page_of_row;
  content = content-object;
}
