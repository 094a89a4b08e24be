use Rattle.dg_messages.proofs.KeepLemmas.{each_last_line_may_end}
use Rattle.dg_messages.proofs.ReadLemmas.{end_reads, nodes_end_reads, ends_have_lines}
use Rattle.dg_messages.proofs.laws.each_last_line_is_read.Goals as goal

pub returns-clause-status : goal.returns-clause-status
returns-clause-status c = ends_have_lines

pub returns-clause-kept : goal.returns-clause-kept
returns-clause-kept c = each_last_line_may_end

pub returns-clause-cause : goal.returns-clause-cause
returns-clause-cause c = end_reads

pub returns-clause-nodes : goal.returns-clause-nodes
returns-clause-nodes c = nodes_end_reads
