-- What stands outside of a command, as far as it is exposed: its input, its output, the clock, the link and the boards. What a
-- command did is a relation between this before it and after it.
use Rattle.std.specs.Prelude.{◌≡◌, ℕ, ◌≤◌, List, Option}
use Rattle.dg_base.specs.Clock.{Answers}
use Rattle.dg_base.specs.declared.outside.Source.{Ghosts as SourceTells}
use Rattle.dg_base.specs.declared.outside.Sink.{Ghosts as SinkTells}
use Rattle.dg_link.specs.Inboxes.{Inboxes}
use Rattle.dg_link.specs.declared.link.Link.{Ghosts as LinkTells}
use Rattle.dg_nor.specs.Device.{Device}

-- the bytes that are left, and how many reads failed
pub record InputState : Type 0 where
  pub left : Option (List ℕ)
  pub reads : ℕ

-- the bytes that were written, and how many writes failed
pub record OutputState : Type 0 where
  pub written : Option (List ℕ)
  pub writes : ℕ

-- the frames that wait, how many calls failed, and the port of the first mote
pub record LinkState : Type 0 where
  pub inboxes : Option Inboxes
  pub failures : ℕ
  pub port : Option ℕ

pub record Outside : Type 0 where
  pub input : InputState
  pub output : OutputState
  pub link : LinkState
  -- the answers to come
  pub clock : Option Answers
  pub boards : List Device

-- ---- what is exposed of what a call is lent

abbrev pub input_of : {S : Type 0} → SourceTells S × S → InputState
input_of source = record { left = source.0.left source.1; reads = source.0.faults source.1 }

abbrev pub output_of : {K : Type 0} → SinkTells K × K → OutputState
output_of sink = record { written = sink.0.written sink.1; writes = sink.0.faults sink.1 }

abbrev pub link_state : {L : Type 0} → LinkTells L × L → LinkState
link_state net = record { inboxes = net.0.inboxes net.1; failures = net.0.faults net.1; port = net.0.first_port net.1 }

-- all of it, of a call that is lent all of it
abbrev pub outside : InputState → OutputState → LinkState → (clock : Option Answers) → (boards : List Device) → Outside
outside input output link clock boards =
    record { input = input; output = output; link = link; clock = clock; boards = boards }

-- ---- of a call that is lent a part of it, whatever the rest is

abbrev pub with_input : {S : Type 0} → SourceTells S × S → Outside → Outside
with_input source rest = record rest { input = input_of source }

abbrev pub with_output : {K : Type 0} → SinkTells K × K → Outside → Outside
with_output sink rest = record rest { output = output_of sink }

abbrev pub with_boards : List Device → Outside → Outside
with_boards devices rest = record rest { boards = devices }

-- ---- what stays, and what rises

-- neither the link nor the clock is used
abbrev pub SameLink : Outside → Outside → Type 0
SameLink a b = (b.link ≡ a.link) × (b.clock ≡ a.clock)

-- no count of faults falls
pub record CountsRise (a b : Outside) : Type 0 where
  pub read_counts : a.input.reads ≤ b.input.reads
  pub write_counts : a.output.writes ≤ b.output.writes
  pub link_counts : a.link.failures ≤ b.link.failures
