use Rattle.std.proofs.Common.{ap, ◌∙◌}
use Rattle.dg_base.specs.Numbers.{number_of}
use Rattle.dg_base.proofs.NumberLemmas.{decimal-number_of, number_of-decimal}
use Rattle.dg_base.proofs.numbers.reads_what_is_printed.Goals as goal

pub returns-clause-reads : goal.returns-clause-reads
returns-clause-reads c bytes n h = decimal-number_of bytes n h

pub returns-clause-printed : goal.returns-clause-printed
returns-clause-printed c bytes n e small = ap number_of e ∙ number_of-decimal n small
