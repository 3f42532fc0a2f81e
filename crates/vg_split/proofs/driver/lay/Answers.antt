use Rattle.std.proofs.Common.{◌≡◌, ◌∙◌, ◌<◌, length, take, Some, [], ap, subst, sym, arith, slice_get}
use Rattle.vg_chain.specs.Made.{made}
use Rattle.vg_split.specs.declared.views.View.TheVariants.{Driver}
use Rattle.vg_split.specs.Plays.{driver_of, laid}
use Rattle.vg_cargo.specs.Entries.{times}
use Rattle.vg_split.specs.Rule.{stored_at, staged, places_of}
use Rattle.vg_split.proofs.PlaceLemmas.{times_get}
use Rattle.vg_split.proofs.LayLemmas.{apart_before, is_there, back_next, back_all, laid_next, stored_all, outs_are, written_is, laying_is}
use Rattle.vg_split.proofs.driver.lay.Goals as goal

pub overflow_cast-at : goal.overflow_cast-at
overflow_cast-at g c = record { fits = omega (arith, c.loop-at-test.true, c.requires.few) }

pub unwrap-requires : goal.unwrap-requires
unwrap-requires g c =
    let places = c.args.places.now in
    let e = c.args.extent.now in
    let ring = (made c.args.shape e.request e.room e.base c.args.size places).ring in
    let many : length ring ≡ length places = c.requires.needed e.base c.args.size places in
    is_there ring c.loop-at.at c.descriptor-descriptor.result (omega (arith, many, c.loop-at-test.true)) (c.descriptor-descriptor.ensures places (sym c.place_at-head.ensures) (sym c.place_at-next.ensures))

pub store_descriptor-requires-clause-view : goal.store_descriptor-requires-clause-view
store_descriptor-requires-clause-view g c =
    let places = c.args.places.now in
    let e = c.args.extent.now in
    let ring = (made c.args.shape e.request e.room e.base c.args.size places).ring in
    laying_is c.loop-at.pass.me (driver_of c.args.pass.now.me.0) (take c.loop-at.at (stored_at places ring)) c.loop-at.invariant.3

pub store_descriptor-requires-clause-place : goal.store_descriptor-requires-clause-place
store_descriptor-requires-clause-place g c =
    let places = c.args.places.now in
    let some = times_get places c.loop-at.at c.loop-at-test.true in
    let less = c.requires.below c.place_at.result (subst (λ k. 0 < times k places) (sym c.place_at.ensures) some) in
    omega (arith, less, c.requires.line.2)

pub store_descriptor-requires-clause-free : goal.store_descriptor-requires-clause-free
store_descriptor-requires-clause-free g c =
    let places = c.args.places.now in
    let e = c.args.extent.now in
    let ring = (made c.args.shape e.request e.room e.base c.args.size places).ring in
    let d = driver_of c.args.pass.now.me.0 in
    let p = c.place_at.result in
    let some : 0 < times p places = subst (λ k. 0 < times k places) (sym c.place_at.ensures) (times_get places c.loop-at.at c.loop-at-test.true) in
    let once = c.requires.free p in
    let apart = apart_before places ring c.loop-at.at p c.loop-at-test.true c.place_at.ensures (omega (arith, once)) in (
      outs_are c.loop-at.pass.me d (take c.loop-at.at (stored_at places ring)) p c.loop-at.invariant.3 (omega (arith, once, some)),
      ap (λ xs. times p (places_of xs)) (written_is c.loop-at.pass.me d (take c.loop-at.at (stored_at places ring)) c.loop-at.invariant.3) ∙ apart,
    )

pub loop-at-preserved : goal.loop-at-preserved
loop-at-preserved g c =
    let places = c.args.places.now in
    let e = c.args.extent.now in
    let ring = (made c.args.shape e.request e.room e.base c.args.size places).ring in
    let d = driver_of c.args.pass.now.me.0 in
    let there : slice_get ring c.loop-at.at ≡ Some c.unwrap.result = c.descriptor-descriptor.ensures places (sym c.place_at-head.ensures) (sym c.place_at-next.ensures) ∙ c.unwrap.ensures in (
      c.store_descriptor.ensures.line.0 ∙ c.loop-at.invariant.0,
      c.store_descriptor.ensures.line.1 ∙ c.loop-at.invariant.1,
      back_next ring c.loop-at.at c.unwrap.result there c.store_descriptor.ensures.back c.loop-at.invariant.2,
      laid_next c.loop-at.pass.me c.store_descriptor.new.pass.me d places ring c.loop-at.at c.place_at.result c.unwrap.result c.loop-at.invariant.3 c.store_descriptor.ensures.view c.loop-at-test.true c.place_at.ensures there,
    )

pub returns-clause-back : goal.returns-clause-back
returns-clause-back g c =
    let places = c.args.places.now in
    let e = c.args.extent.now in
    let ring = (made c.args.shape e.request e.room e.base c.args.size places).ring in
    let many : length ring ≡ length places = c.requires.needed e.base c.args.size places in
    back_all ring c.loop-at.at (omega (arith, many, c.loop-at-test.false)) c.loop-at.invariant.2

pub returns-clause-view : goal.returns-clause-view
returns-clause-view g c =
    let places = c.args.places.now in
    let e = c.args.extent.now in
    let ring = (made c.args.shape e.request e.room e.base c.args.size places).ring in
    let d = driver_of c.args.pass.now.me.0 in
    c.loop-at.invariant.3 ∙ ap (λ xs. (Driver (staged d (laid xs)), [])) (stored_all places ring c.loop-at.at (omega (arith, c.loop-at-test.false)))
