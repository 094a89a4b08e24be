use Rattle.std.proofs.Common.{◌≡◌, get_or, [], ◌∷◌, ◌-◌, arith}
use Rattle.dg_rounds.specs.Rounds.{round, paced, passed}
use Rattle.dg_rounds.proofs.RoundLemmas.{first_rest, second_rest, advert_rest, asking_rest, sending_rest, hearing_rest}
use Rattle.dg_rounds.proofs.rounds.event_at.Goals as goal

pub returns-then-position-lt-REST : goal.returns-then-position-lt-REST
returns-then-position-lt-REST c d =
    let at : get_or (round c.args.a c.args.b) c.args.position d ≡ paced c.args.a = first_rest c.args.a c.args.b c.args.position d (omega arith) in
    cc

pub returns-then-position : goal.returns-then-position
returns-then-position c d =
    let at : get_or (round c.args.a c.args.b) c.args.position d ≡ paced c.args.b = second_rest c.args.a c.args.b c.args.position d (omega arith) (omega arith) in
    cc

pub returns-then-position-2 : goal.returns-then-position-2
returns-then-position-2 c d =
    let at : get_or (round c.args.a c.args.b) c.args.position d ≡ paced c.args.a = advert_rest c.args.a c.args.b c.args.position d (omega arith) (omega arith) in
    cc

pub returns-then-position-le-ASKED : goal.returns-then-position-le-ASKED
returns-then-position-le-ASKED c d =
    let a = c.args.a in
    let b = c.args.b in
    let at : get_or (round a b) c.args.position d ≡ get_or (passed a b ∷ paced b ∷ []) (c.args.position - 103) (passed b a) = asking_rest a b c.args.position d (omega arith) (omega arith) in
    cc

pub returns-then-position-eq0 : goal.returns-then-position-eq0
returns-then-position-eq0 c d =
    let at : get_or (round c.args.a c.args.b) c.args.position d ≡ paced c.args.a = sending_rest c.args.a c.args.b c.args.position d (omega arith) (omega arith) (omega arith) in
    cc

pub returns-else-position-eq0 : goal.returns-else-position-eq0
returns-else-position-eq0 c d =
    let at : get_or (round c.args.a c.args.b) c.args.position d ≡ passed c.args.a c.args.b = hearing_rest c.args.a c.args.b c.args.position d (omega arith) (omega arith) (omega arith) in
    cc
