use Rattle.std.proofs.Common.{◌≡◌, ℕ, ◌+◌, ◌%◌, ◌<◌, ◌++◌, ◌∷◌, [], length, take, drop, sym, ap, ◌∙◌, subst, arith}
use Rattle.std.proofs.lemmas.List.{take_at}
use Rattle.dg_ihex.specs.Sizes.{longest_image}
use Rattle.dg_ihex.specs.Blocks.{Block, byte_at}
use Rattle.dg_ihex.specs.Cells.{Keeps, cells_written}
use Rattle.dg_ihex.proofs.BlockLemmas.{lowest_of-more, past_of-more}
use Rattle.dg_ihex.proofs.WindowLemmas.{keeps_block}
use Rattle.dg_ihex.proofs.window.Window.put.Goals as goal

pub returns : goal.returns
returns c blocks h apart close =
    let block : Block = record { address = c.args.address; bytes = c.args.bytes.now } in
    let low = lowest_of-more blocks block c.requires.fits in
    let high = past_of-more blocks block in
    let shift = c.args.self.now.shift in
    let from = c.args.address + shift in
    let old = c.args.self.now.cells.items in
    let new = c.write.new.cells in
    let is : new ≡ cells_written old from c.args.bytes.now = c.write.ensures ∙ ap (λ cells. cells_written cells from c.args.bytes.now) c.deref_mut.ensures.value in
    let long : length new ≡ c.args.self.now.cells.len = c.write.auto.cells ∙ c.deref_mut.ensures.len in
    let within : (k : ℕ) → k < length c.args.bytes.now → (from + k) % longest_image < length old = λ k within. subst (λ n. (from + k) % longest_image < n) c.args.self.now.cells.ok.0 (c.requires.within k within) in
    let same : take c.args.self.now.cells.len (new ++ drop (length new) old) ≡ new = take_at new (drop (length new) old) c.args.self.now.cells.len long in
    record {
      lowest = omega (arith, low, h.lowest);
      past = omega (arith, high, h.past);
      close = close;
      cells = subst (λ cells. Keeps shift cells (byte_at (blocks ++ block ∷ []))) (sym (same ∙ is)) (keeps_block blocks block shift old within c.requires.fits apart close h.cells);
    }
