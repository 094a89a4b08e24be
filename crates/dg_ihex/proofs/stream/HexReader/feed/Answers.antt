use Rattle.std.proofs.Common.{◌≡◌, length, ◌++◌, sym, ◌∙◌, subst, arith}
use Rattle.std.proofs.lemmas.List.{length-append}
use Rattle.std.proofs.lemmas.Result.{on_ok_weaker}
use Rattle.dg_ihex.specs.Streams.{Fed, Going}
use Rattle.dg_ihex.proofs.StreamLemmas.{fed_more, fed_none, fed_still}
use Rattle.dg_ihex.proofs.stream.HexReader.feed.Goals as goal

pub returns-then-is_some : goal.returns-then-is_some
returns-then-is_some c input h few = record {
  counts = omega (arith, c.saturating_add-self.ensures, h.counts, few, length-append input c.args.bytes.now);
  stands = fed_more c.args.self.now.fault c.args.self.now.stream input c.args.bytes.now (sym c.is_some.ensures ∙ c.if-is_some.true) h.stands;
}

pub returns-in-Err : goal.returns-in-Err
returns-in-Err c input h few =
    let all = input ++ c.args.bytes.now in
    let g = fed_none c.args.self.now.fault c.args.self.now.stream input (sym c.is_some.ensures ∙ c.if-is_some.false) h.stands in
    let told = c.in-Err.ensures input g few in
    let count : c.saturating_add-self.result ≡ length all = omega (arith, c.saturating_add-self.ensures, h.counts, few, length-append input c.args.bytes.now) in
    on_ok_weaker {Q = Fed c.keep.new.self all} c.keep.result
    (λ k. subst (λ x. Fed x all) (sym k.0) (record { counts = count; stands = (k.1, told.0 k.1) })) c.keep.ensures.kept

pub returns : goal.returns
returns c input h few =
    let all = input ++ c.args.bytes.now in
    let none = sym c.is_some.ensures ∙ c.if-is_some.false in
    let g = fed_none c.args.self.now.fault c.args.self.now.stream input none h.stands in
    let count : c.saturating_add-self.result ≡ length all = omega (arith, c.saturating_add-self.ensures, h.counts, few, length-append input c.args.bytes.now) in
    on_ok_weaker {P = Going c.shorten.new.self all} c.shorten.result
    (λ k. record { counts = count; stands = fed_still c.args.self.now.fault c.shorten.new.self all none k }) (c.shorten.ensures all (c.in_default.ensures input g few))
