use Rattle.dg_send.proofs.HistoryLaws.{sent_and_left, done_sent_all, least_first, each_once, gap_between}
use Rattle.dg_send.proofs.serves_the_union.Goals as goal

pub returns-clause-sent_and_left : goal.returns-clause-sent_and_left
returns-clause-sent_and_left c = sent_and_left

pub returns-clause-done : goal.returns-clause-done
returns-clause-done c = done_sent_all

pub returns-clause-least_first : goal.returns-clause-least_first
returns-clause-least_first c = least_first

pub returns-clause-each_once : goal.returns-clause-each_once
returns-clause-each_once c = each_once

pub returns-clause-gap : goal.returns-clause-gap
returns-clause-gap c = gap_between
