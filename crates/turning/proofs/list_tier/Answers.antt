-- `turning::list_tier` meets its contract. The invariant is `Listing`: which of her pairs so far have been listed.
use Prim.Native.Nat.{◌+◌, ◌-◌, ◌<◌}
use mathlib.Core.Path.{◌≡◌, sym, ap, ◌∙◌}
use native.Mathlib.Omega.{arith}
use Rattle.base.specs.Lists.{one}
use Rattle.tables.specs.Table.{workshop_in}
use Rattle.turning.proofs.Due.{tier_paired, here_inside, here_place}
use Rattle.turning.proofs.Listing.{listing_start, listing_end, listing_more, from_bool_one}
use Rattle.turning.proofs.list_tier.Goals as goal

pub loop-k-init : goal.loop-k-init
loop-k-init c =
    let a = c.args in
    let all = c.pairs_of-own.ensures.stretch in
    let first : c.pairs_of-own.result.start + 0 ≡ c.pairs_of-own.result.start = omega arith in
    rw first (listing_start a.input.now.table.case.now a.input.now.table.words.now a.input.now.clean.tabled a.s a.tier _ _ all a.pairs.now)

pub loop-k-preserved : goal.loop-k-preserved
loop-k-preserved c =
    let a = c.args in
    let here = c.loop-k in
    let own = c.pairs_of-own in
    let all = own.ensures.stretch in
    let case = a.input.now.table.case.now in
    let clean = a.input.now.clean in
    let p = own.result.start + here.k in
    let within : p < own.result.start + (own.result.end - own.result.start) = omega (arith, c.loop-k-test.true) in
    let w = workshop_in case p in
    let e = here_place case a.s _ _ all p (omega arith) within in
    let t = tier_paired case a.s w a.tier _ (sym e) (here_inside case a.s _ _ all p (omega arith) within) (clean.pair a.s w) in
    let next : own.result.start + (here.k + 1) ≡ p + 1 = omega arith in
    rw next (listing_more case a.input.now.table.words.now clean.tabled a.s a.tier _ _ all a.pairs.now here.pairs here.n p here.invariant
    (omega arith) within c.from-n.result (omega (arith, here.invariant.few, here.invariant.same, all.few, c.requires, within))
    (c.from-n.ensures ∙ from_bool_one _ ∙ rw c.student_tier.ensures (ap one (sym t))))

pub returns : goal.returns
returns c =
    let a = c.args in
    let here = c.loop-k in
    let own = c.pairs_of-own in
    listing_end a.input.now.table.case.now a.input.now.table.words.now a.input.now.clean.tabled a.s a.tier _ _ own.ensures.stretch a.pairs.now here.pairs
    here.n _ here.invariant (omega (arith, c.loop-k-test.false, own.ensures.order))
