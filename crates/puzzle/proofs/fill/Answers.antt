-- An accepted text stands in the lent buffers: its sections in front of them, its pairs stored among zeros.
use Rattle.std.proofs.Common.{◌≡◌, ◌*◌, ◌≤◌, ℕ, length, take, ap, ◌∙◌, arith, length-append, length-take, length-drop}
use Rattle.std.proofs.lemmas.List.{length-replicate}
use Rattle.puzzle.specs.Buffers.{with_pairs}
use Rattle.puzzle.proofs.Fills.{zeros-laid}
use Rattle.puzzle.proofs.Calls.{pairs_below, accepted_answer}
use Rattle.puzzle.proofs.fill.Goals as goal
use Rattle.puzzle.proofs.fill.Goals.{In_ok-counts}

few-frames : (c : In_ok-counts) → c.in_ok-counts.counts.frames ≤ 16
few-frames c =
    let k : length c.read_sections.new.map ≡ length c.args.map.now = c.read_sections.auto.map in
    omega (arith, c.in_ok-counts.ensures.map.fits, k, c.requires.0.map)

pub store_pairs-requires : goal.store_pairs-requires
store_pairs-requires c =
    let g = few-frames (goal.at.store_pairs-requires c).In_ok-counts in
    λ i h. omega (arith, g, pairs_below c.in_ok-counts.ensures i h, c.requires.0.words, c.zero.ensures, length-replicate {A = ℕ}, length-append {A = ℕ}, length-take {A = ℕ}, length-drop {A = ℕ})

pub returns : goal.returns
returns c =
    let g = few-frames (goal.at.returns c).In_ok-counts in
    let n = 512 * c.in_ok-counts.counts.frames in
    accepted_answer c.in_ok-counts.ensures c.args.words.now
    (c.store_pairs.ensures
    ∙ ap (with_pairs (take (c.in_ok-counts.counts.words * 2) c.read_sections.new.pairs)) (zeros-laid n c.args.words.now c.zero.new.buffer (omega (arith, c.requires.0.words)) c.zero.ensures))
