use Rattle.std.proofs.Common.{refl, ap, get_or, arith}
use Rattle.std.specs.Prelude.{Ok, Err}
use Rattle.dg_single.proofs.PlaceLemmas.{played_over, may_run, put_back}
use Rattle.dg_single.proofs.playing.play.Goals as goal

pub play_alone-requires-clause-mote : goal.play_alone-requires-clause-mote
play_alone-requires-clause-mote g c =
    may_run c.args.now c.from-index.result c.args.mote c.args.motes.now (get_or c.args.motes.now c.from-index.result c.index-motes-index.result) (g.N.Nor.device c.args.board.now) (omega (arith, c.from-index.ensures, c.requires.motes)) (ap (λ x. get_or c.args.motes.now c.from-index.result x) c.index-motes-index.is) c.from-index.ensures c.requires.may

pub returns-in-Ok-clause-motes : goal.returns-in-Ok-clause-motes
returns-in-Ok-clause-motes g c = put_back c.from-index.result c.args.mote c.args.motes.now c.play_alone.new.runs (omega (arith, c.from-index.ensures, c.requires.motes)) c.from-index.ensures

pub returns-in-Err-clause-motes : goal.returns-in-Err-clause-motes
returns-in-Err-clause-motes g c = put_back c.from-index.result c.args.mote c.args.motes.now c.play_alone.new.runs (omega (arith, c.from-index.ensures, c.requires.motes)) c.from-index.ensures

pub returns-in-Ok-clause-played : goal.returns-in-Ok-clause-played
returns-in-Ok-clause-played g c = λ boards was at. (
  Ok c.in-Ok.sent,
  refl,
  played_over (Ok c.in-Ok.sent) c.args.event.now c.args.now c.from-index.result c.args.motes.now (get_or c.args.motes.now c.from-index.result c.index-motes-index.result) c.play_alone.new.runs (g.N.Nor.device c.args.board.now) (g.N.Nor.device c.play_alone.new.board) (omega (arith, c.from-index.ensures, c.requires.motes)) (ap (λ x. get_or c.args.motes.now c.from-index.result x) c.index-motes-index.is) c.in-Ok.ensures.plays c.in-Ok.ensures.powers c.args.mote c.from-index.ensures boards was at,
)

pub returns-in-Err-clause-played : goal.returns-in-Err-clause-played
returns-in-Err-clause-played g c = λ boards was at. (
  Err c.in-Err.fault,
  ap (λ f. Err f) c.from.ensures,
  played_over (Err c.in-Err.fault) c.args.event.now c.args.now c.from-index.result c.args.motes.now (get_or c.args.motes.now c.from-index.result c.index-motes-index.result) c.play_alone.new.runs (g.N.Nor.device c.args.board.now) (g.N.Nor.device c.play_alone.new.board) (omega (arith, c.from-index.ensures, c.requires.motes)) (ap (λ x. get_or c.args.motes.now c.from-index.result x) c.index-motes-index.is) c.in-Err.ensures.plays c.in-Err.ensures.powers c.args.mote c.from-index.ensures boards was at,
)
