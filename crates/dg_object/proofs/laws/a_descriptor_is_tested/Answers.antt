use Rattle.dg_object.proofs.TestedLemmas.{tested_is, is_tested, fields_read, described_is, is_described}
use Rattle.dg_object.proofs.laws.a_descriptor_is_tested.Goals as goal

pub returns-clause-tested : goal.returns-clause-tested
returns-clause-tested c = λ page. (tested_is page, is_tested page)

pub returns-clause-fields : goal.returns-clause-fields
returns-clause-fields c = fields_read

pub returns-clause-described : goal.returns-clause-described
returns-clause-described c = λ page image version pages. (described_is page image version pages, is_described page image version pages)
