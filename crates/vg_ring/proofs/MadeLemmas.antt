use Rattle.std.proofs.Common.{◌≡◌, ℕ, List, length, get_or, replicate, refl, sym, ap, subst, ◌∙◌, arith}
use Rattle.std.specs.List.{range_with_len}
use Rattle.std.proofs.lemmas.List.{length-replicate, get_or-replicate}
use Rattle.std.proofs.lemmas.List.FromFn.{length-range_with_len}
use Rattle.vg_wire.specs.declared.request.Queue.{Queue}
use Rattle.vg_cargo.specs.declared.parcel.Tag.{Tag}
use Rattle.vg_cargo.specs.Entries.{times}
use Rattle.vg_split.specs.Rule.{new_driver, new_device}
use Rattle.vg_ring.specs.Kept.{IsKept}
use Rattle.vg_ring.specs.Tended.{IsTended}
use Rattle.vg_split.proofs.PlaceLemmas.{range_once, range_below}

pub kept_new : (size : ℕ) (free links : List ℕ) (at : ℕ) (counts : List ℕ) → free ≡ range_with_len 0 size → at ≡ 0 → length links ≡ size → counts ≡ replicate 66 0 → IsKept size new_driver 0 0 free links at counts
kept_new size free links at counts free_is at_is links_size counts_is =
    subst (λ (i : ℕ). IsKept size new_driver 0 0 free links i counts) (sym at_is) (record {
      published_is = refl;
      reaped_is = refl;
      few = omega arith;
      balance = λ f. refl;
      places = record {
        free_size = ap length free_is ∙ length-range_with_len 0 size;
        links_size = links_size;
        at_is = refl;
        at_most = omega arith;
        once = λ p. (let once = range_once p 0 size in let same : times p free ≡ times p (range_with_len 0 size) = ap (times p) free_is in omega (arith, once, same));
        below = λ p some. (let same : times p free ≡ times p (range_with_len 0 size) = ap (times p) free_is in let less = range_below p 0 size (omega (arith, some, same)) in omega (arith, less));
        linked = refl;
      };
      lanes = ap length counts_is ∙ length-replicate {A = ℕ} 66 0;
      counts_are = λ lane small. ap (λ (xs : List ℕ). get_or xs lane 0) counts_is ∙ get_or-replicate 66 lane 0 0 small;
    })

pub tended_new : (queue : Queue) (size : ℕ) (tags : List Tag) → length tags ≡ size → IsTended size (new_device queue) 0 0 tags
tended_new queue size tags long = record {
  fetched_is = refl;
  completed_is = refl;
  few = omega arith;
  matched = λ f. refl;
  once = λ h. omega arith;
  below = λ e has. absurd has;
  lent_once = λ h. omega arith;
  lent_held = λ e has. has;
  whole = λ e has. absurd has;
  apart = λ e has. absurd has;
  some_place = λ e has. absurd has;
  places_below = λ e has. absurd has;
  tags_size = long;
  tags_are = λ e has. absurd has;
}
