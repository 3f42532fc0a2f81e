use Rattle.std.proofs.Common.{◌≡◌, ℕ, Bool, Option, List, [], ◌∷◌, length, get_or, refl, sym, ap, subst, ◌∙◌, arith}
use Rattle.atomic_table.specs.Table.{Me}
use Rattle.vg_chain.specs.declared.descriptor.Descriptor.{Descriptor}
use Rattle.vg_chain.specs.declared.shape.Shape.{Shape}
use Rattle.vg_chain.specs.Made.{made, IsCount, IsNeeded}
use Rattle.vg_wire.specs.declared.request.Queue.{Queue}
use Rattle.vg_split.specs.declared.views.Stored.{Stored}
use Rattle.vg_split.specs.declared.views.DriverView.{DriverView}
use Rattle.vg_split.specs.declared.views.View.{View}
use Rattle.vg_split.specs.declared.views.View.TheVariants.{Driver}
use Rattle.vg_cargo.specs.Cargo.{CargoData, IsExtent, base_of}
use Rattle.vg_split.specs.Rule.{stored_at, stored_of, staged, places_of, published_after}
use Rattle.vg_cargo.specs.Entries.{ring_of, AreBack, published_as}
use Rattle.vg_split.specs.Tells.{IsSendable, IsOffer}
use Rattle.vg_split.specs.Plays.{driver_of, laid, written_by}
use Rattle.vg_split.proofs.LayLemmas.{written_at}

stored_places : (places : List ℕ) (ring : List Descriptor) → length ring ≡ length places → places_of (stored_at places ring) ≡ places
stored_places [] [] same = refl
stored_places [] (d ∷ ring) same = refl
stored_places (p ∷ places) [] same = absurd (omega (arith, same))
stored_places (p ∷ places) (d ∷ ring) same = ap (λ (ps : List ℕ). p ∷ ps) (stored_places places ring (omega (arith, same)))

stored_long : (places : List ℕ) (ring : List Descriptor) → length ring ≡ length places → length (stored_at places ring) ≡ length places
stored_long [] [] same = refl
stored_long [] (d ∷ ring) same = refl
stored_long (p ∷ places) [] same = absurd (omega (arith, same))
stored_long (p ∷ places) (d ∷ ring) same = (let rest = stored_long places ring (omega (arith, same)) in omega (arith, rest))

module _ {P : Type 0} (wanted : P → Bool) (queue : Queue) (n : ℕ) where
  -- the descriptors of a cargo at these places
  abbrev stored_by : Shape → ℕ → ℕ → ℕ → List ℕ → List Stored
  stored_by shape m r b places = stored_at places (made shape m r b n places).ring

  stored_is : (shape : Shape) (m r b published : ℕ) (d : DriverView) (places : List ℕ) (cargo : CargoData P) → IsSendable wanted queue n d published shape places cargo → IsExtent cargo.parcel b m r → length (made shape m r b n places).ring ≡ length places
      → stored_by shape m r b places ≡ stored_of n (published_as (places_of (stored_by shape m r b places)) cargo)
  stored_is shape m r b published d places cargo s x many =
      let p = cargo.parcel in
      let base : b ≡ base_of p.queue (get_or places 0 0) = x.base ∙ ap (base_of p.queue) (sym s.head_is) in
      ap (λ (z : Shape). stored_by z m r b places) (sym s.shape_is)
      ∙ (ap (λ (z : ℕ). stored_by p.shape z r b places) x.request
      ∙ (ap (λ (z : ℕ). stored_by p.shape (length p.request) z b places) x.room
      ∙ (ap (λ (z : ℕ). stored_by p.shape (length p.request) p.room z places) base
      ∙ ap (λ (ps : List ℕ). stored_by p.shape (length p.request) p.room (base_of p.queue (get_or ps 0 0)) ps) (sym (stored_places places (made shape m r b n places).ring many)))))

  ring_is : (shape : Shape) (m r b published : ℕ) (d : DriverView) (places : List ℕ) (cargo : CargoData P) → IsSendable wanted queue n d published shape places cargo → IsExtent cargo.parcel b m r → length (made shape m r b n places).ring ≡ length places
      → (made shape m r b n places).ring ≡ ring_of n (published_as (places_of (stored_by shape m r b places)) cargo)
  ring_is shape m r b published d places cargo s x many =
      let p = cargo.parcel in
      let base : b ≡ base_of p.queue (get_or places 0 0) = x.base ∙ ap (base_of p.queue) (sym s.head_is) in
      ap (λ (z : Shape). (made z m r b n places).ring) (sym s.shape_is)
      ∙ (ap (λ (z : ℕ). (made p.shape z r b n places).ring) x.request
      ∙ (ap (λ (z : ℕ). (made p.shape (length p.request) z b n places).ring) x.room
      ∙ (ap (λ (z : ℕ). (made p.shape (length p.request) p.room z n places).ring) base
      ∙ ap (λ (ps : List ℕ). (made p.shape (length p.request) p.room (base_of p.queue (get_or ps 0 0)) n ps).ring) (sym (stored_places places (made shape m r b n places).ring many)))))

  pub many_in : (shape : Shape) (m r b published : ℕ) (d : DriverView) (places : List ℕ) (cargo : CargoData P) → IsSendable wanted queue n d published shape places cargo → IsExtent cargo.parcel b m r → length (made shape m r b n places).ring ≡ length places
  many_in shape m r b published d places cargo s x =
      subst (λ (z : ℕ). length (made shape z r b n places).ring ≡ length places) (sym x.request) (subst (λ (z : ℕ). length (made shape (length cargo.parcel.request) z b n places).ring ≡ length places) (sym x.room) (s.needed b n places))

  pub offer_is : (me : Me (Option (CargoData P)) View) (shape : Shape) (m r b published : ℕ) (d : DriverView) (places : List ℕ) (cargo : CargoData P)
      → IsSendable wanted queue n d published shape places cargo → IsExtent cargo.parcel b m r → AreBack (made shape m r b n places).ring → me ≡ (Driver (staged d (laid (stored_by shape m r b places))), [])
      → IsOffer wanted queue n (driver_of me.0) (written_by me.0) (get_or places 0 0) cargo
  offer_is me shape m r b published d places cargo s x back e =
      let stored = stored_by shape m r b places in
      let many = many_in shape m r b published d places cargo s x in
      let places_are = stored_places places (made shape m r b n places).ring many in
      let long = stored_long places (made shape m r b n places).ring many in
      let some = s.some in
      let room = s.room in
      let count = s.published_is in
      let last = s.last in
      subst (λ (z : Me (Option (CargoData P)) View). IsOffer wanted queue n (driver_of z.0) (written_by z.0) (get_or places 0 0) cargo) (sym e)
      (subst (λ (z : List Stored). IsOffer wanted queue n (staged d (laid stored)) z (get_or places 0 0) cargo) (sym (written_at d stored))
      (record {
        stored_is = stored_is shape m r b published d places cargo s x many;
        some = omega (arith, long, some);
        first = ap (λ (ps : List ℕ). get_or ps 0 0) places_are;
        head_is = sym s.head_is;
        room = omega (arith, long, room);
        ordinal = s.ordinal;
        queue_is = s.queue_is;
        few = omega (arith, count, last);
        wanted_is = s.wanted_is;
        count = subst IsCount (sym s.shape_is) s.count;
        needed = subst (λ (z : ℕ). IsNeeded cargo.parcel.shape (length cargo.parcel.request) cargo.parcel.room z) (sym long) (subst (λ (z : Shape). IsNeeded z (length cargo.parcel.request) cargo.parcel.room (length places)) (sym s.shape_is) s.needed);
        back = subst AreBack (ring_is shape m r b published d places cargo s x many) back;
      }))

  pub sent_is : (me after : Me (Option (CargoData P)) View) (shape : Shape) (m r b published : ℕ) (d : DriverView) (places : List ℕ) (cargo : CargoData P)
      → IsSendable wanted queue n d published shape places cargo → IsExtent cargo.parcel b m r → me ≡ (Driver (staged d (laid (stored_by shape m r b places))), [])
      → after ≡ (Driver (published_after (driver_of me.0) (published_as (places_of (written_by me.0)) cargo)), []) → after ≡ (Driver (published_after d (published_as places cargo)), [])
  sent_is me after shape m r b published d places cargo s x e is =
      let stored = stored_by shape m r b places in
      let many = many_in shape m r b published d places cargo s x in
      let places_are = ap places_of (written_at d stored) ∙ stored_places places (made shape m r b n places).ring many in
      is ∙ (ap {B = Me (Option (CargoData P)) View} (λ (z : Me (Option (CargoData P)) View). (Driver (published_after (driver_of z.0) (published_as (places_of (written_by z.0)) cargo)), [])) e
      ∙ ap {B = Me (Option (CargoData P)) View} (λ (ps : List ℕ). (Driver (published_after d (published_as ps cargo)), [])) places_are)
