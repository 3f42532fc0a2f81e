-- What is made and given lies in buffers, over each command and act.
use Rattle.std.proofs.Common.{◌≡◌, ◌≢◌, ℕ, ◌+◌, ◌||◌, Bool, true, List, [], ◌∷◌, ◌++◌, Option, Some, None, refl, ap, sym, subst, ◌∙◌}
use mathlib.Core.Logic.{dite}
use native.Mathlib.Decide.{ℕ_discrete}
use Rattle.std.specs.Prelude.{is_some}
use Rattle.std.specs.List.{slice_set}
use Rattle.std.specs.Ordering.{nat_cmp}
use Rattle.std.specs.Map.{lookup, remove_entry, set_value}
use Rattle.std.specs.BTreeMap.{insert_entry, is_at}
use Rattle.vg_laws.proofs.Options.{some-same}
use Rattle.vg_laws.proofs.Bools.{right-true, not-both}
use Rattle.vg_formats.specs.declared.entry.MemEntry.{MemEntry}
use Rattle.vg_pages.specs.Memory.{Memory}
use Rattle.vg_resource.specs.declared.resource.Resource.{Resource}
use Rattle.vg_resource.specs.Resource.{blank, resource_at}
use Rattle.vg_blob.specs.declared.blobs.Blob.{Blob}
use Rattle.vg_blob.specs.Blobs.{blob_at}
use Rattle.vg_transfer.specs.Backings.{backing_at}
use Rattle.vg_share.specs.declared.share.Buffer.{Buffer}
use Rattle.vg_share.specs.Share.{ShareState, buffer_at, ended, entered, freed, imported, imported_buffer, new_pages, pages_at, pages_in, released, released_buffer, token_key, with_buffer}
use Rattle.vg_device.proofs.MapLemmas.{insert-found, insert_other, remove_other, set_other}
use Rattle.vg_device.specs.ActStep.{shown_at}
use Rattle.vg_device.specs.State.{State, has_resource}
use Rattle.vg_linked.specs.Consistent.{AreInPages, AreOfBuffers}
use Rattle.vg_linked.specs.Rising.{AreRising}
use Rattle.vg_linked.proofs.EntryLemmas.{remove-gone}
use Rattle.vg_linked.proofs.HeldLemmas.{ShareStands, freed-other, imported-found, imported-other, may-free, may-import, may-release, new-other, next-none, released-found, released-other}
use Rattle.vg_linked.proofs.IdLemmas.{IdsOf, IsNew, ids_moves, new-2d, new-blob, some-none}
use Rattle.vg_linked.proofs.LinkHistory.{Stand, moves_stand}
use Rattle.vg_linked.proofs.MoveLemmas.{ActMoves, CommandMoves}

-- ---- commands, where the shares and the number of pages stay

pub record Buffered (share : ShareState) (count : ℕ) (resources : List (ℕ × Resource)) (backings : List (ℕ × List MemEntry)) (blobs : List (ℕ × Blob)) : Type 0 where
  pub live : (id : ℕ) → (is_some (blob_at id blobs) || is_some (resource_at id resources)) ≡ true → is_some (buffer_at id share) ≡ true
  pub backed : (id : ℕ) (ranges : List MemEntry) → backing_at id backings ≡ Some ranges → AreInPages count ranges (pages_at id share)
  pub blob : (id : ℕ) (blob : Blob) → blob_at id blobs ≡ Some blob → AreInPages count blob.entries (pages_at id share)

-- what a command may make, and give
abbrev pub HasBuffer : ShareState → ℕ → Type 0
HasBuffer share id = 0 ≢ id → is_some (buffer_at id share) ≡ true

abbrev pub InBuffer : ShareState → ℕ → ℕ → List MemEntry → Type 0
InBuffer share count id ranges = AreInPages count ranges (pages_at id share)

pub record IsBuffered (share : ShareState) (count : ℕ) (s : State) : Type 0 where
  pub ids : IdsOf s
  pub of : Buffered share count s.resources s.backings s.blobs

-- one value comes
came : {X : Type 0} (P : ℕ → X → Type 0) (id : ℕ) (new : X) (es : List (ℕ × X)) → P id new → ((q : ℕ) (x : X) → lookup (is_at (nat_cmp q)) es ≡ Some x → P q x)
    → (q : ℕ) (x : X) → lookup (is_at (nat_cmp q)) (insert_entry nat_cmp es id new) ≡ Some x → P q x
came P id new es now was q x found = dite (ℕ_discrete q id)
    (λ same. subst (λ n. P n x) (sym same)
    (subst (P id) (some-same (sym (insert-found id new es) ∙ ap (λ n. lookup (is_at (nat_cmp n)) (insert_entry nat_cmp es id new)) (sym same) ∙ found)) now))
    (λ other. was q x (sym (insert_other q id new other es) ∙ found))

-- one goes
went : {X : Type 0} (P : ℕ → X → Type 0) (id : ℕ) (es : List (ℕ × X)) → AreRising es → ((q : ℕ) (x : X) → lookup (is_at (nat_cmp q)) es ≡ Some x → P q x)
    → (q : ℕ) (x : X) → lookup (is_at (nat_cmp q)) (remove_entry (is_at (nat_cmp id)) es) ≡ Some x → P q x
went P id es rising was q x found = dite (ℕ_discrete q id)
    (λ same. some-none (lookup (is_at (nat_cmp q)) (remove_entry (is_at (nat_cmp id)) es)) x found
    (ap (λ n. lookup (is_at (nat_cmp n)) (remove_entry (is_at (nat_cmp id)) es)) same ∙ remove-gone id es rising))
    (λ other. was q x (sym (remove_other q id other es) ∙ found))

either-some : {X Y : Type 0} {P : Type 0} (a : Option X) (b : Option Y) → (is_some a || is_some b) ≡ true → ((x : X) → a ≡ Some x → P) → ((y : Y) → b ≡ Some y → P) → P
either-some (Some x) b some first second = first x refl
either-some None (Some y) some first second = second y refl
either-some None None some first second = cc

first-some : {X Y : Type 0} (a : Option X) (b : Option Y) (x : X) → a ≡ Some x → (is_some a || is_some b) ≡ true
first-some (Some y) b x is = refl
first-some None b x is = cc

second-some : {X Y : Type 0} (a : Option X) (b : Option Y) (y : Y) → b ≡ Some y → (is_some a || is_some b) ≡ true
second-some (Some x) b y is = refl
second-some None (Some z) y is = refl
second-some None None y is = cc

-- each resource, of either kind, has its buffer
module _ (share : ShareState) (count : ℕ) where
  abbrev Live : List (ℕ × Resource) → List (ℕ × Blob) → Type 0
  Live resources blobs =
      ((id : ℕ) (resource : Resource) → resource_at id resources ≡ Some resource → is_some (buffer_at id share) ≡ true)
      × ((id : ℕ) (blob : Blob) → blob_at id blobs ≡ Some blob → is_some (buffer_at id share) ≡ true)

  apart : (s : State) → IsBuffered share count s → Live s.resources s.blobs
  apart s was = (
    (λ id resource is. was.of.live id (second-some (blob_at id s.blobs) (resource_at id s.resources) resource is)),
    (λ id blob is. was.of.live id (first-some (blob_at id s.blobs) (resource_at id s.resources) blob is)),
  )

  joined : (resources : List (ℕ × Resource)) (blobs : List (ℕ × Blob)) → Live resources blobs
      → (id : ℕ) → (is_some (blob_at id blobs) || is_some (resource_at id resources)) ≡ true → is_some (buffer_at id share) ≡ true
  joined resources blobs all id some = either-some (blob_at id blobs) (resource_at id resources) some (all.1 id) (all.0 id)

  created : (s : State) (id : ℕ) (resource : Resource) → IsNew id s → HasBuffer share id → IsBuffered share count s
      → Buffered share count (insert_entry nat_cmp s.resources id resource) s.backings s.blobs
  created s id resource new has was = record {
    live = joined (insert_entry nat_cmp s.resources id resource) s.blobs
        (came (λ q x. is_some (buffer_at q share) ≡ true) id resource s.resources (has new.some) (apart s was).0, (apart s was).1);
    backed = was.of.backed;
    blob = was.of.blob;
  }

  ended_one : (s : State) (id : ℕ) → IsBuffered share count s
      → Buffered share count (remove_entry (is_at (nat_cmp id)) s.resources) (remove_entry (is_at (nat_cmp id)) s.backings) (remove_entry (is_at (nat_cmp id)) s.blobs)
  ended_one s id was = record {
    live = joined (remove_entry (is_at (nat_cmp id)) s.resources) (remove_entry (is_at (nat_cmp id)) s.blobs) (
      went (λ q x. is_some (buffer_at q share) ≡ true) id s.resources was.ids.rising_resources (apart s was).0,
      went (λ q x. is_some (buffer_at q share) ≡ true) id s.blobs was.ids.rising_blobs (apart s was).1,
    );
    backed = went (λ q ranges. AreInPages count ranges (pages_at q share)) id s.backings was.ids.rising_backings was.of.backed;
    blob = went (λ q (blob : Blob). AreInPages count blob.entries (pages_at q share)) id s.blobs was.ids.rising_blobs was.of.blob;
  }

  pixels : (s : State) (id : ℕ) (old new : Resource) → resource_at id s.resources ≡ Some old → IsBuffered share count s
      → Buffered share count (set_value (is_at (nat_cmp id)) s.resources new) s.backings s.blobs
  pixels s id old new found was = record {
    live = joined (set_value (is_at (nat_cmp id)) s.resources new) s.blobs (
      (λ q x is. dite (ℕ_discrete q id)
          (λ same. subst (λ n. is_some (buffer_at n share) ≡ true) (sym same) ((apart s was).0 id old found))
          (λ other. (apart s was).0 q x (sym (set_other q id new other s.resources) ∙ is))),
      (apart s was).1,
    );
    backed = was.of.backed;
    blob = was.of.blob;
  }

  pub buffered_commands : CommandMoves (IsBuffered share count) (IsBuffered share count) (HasBuffer share) (InBuffer share count)
  buffered_commands =
      let kept = ids_moves.commands in
      record {
        stay = λ s was. was;
        create = λ s id format width height known none made was. record {
          ids = kept.create s id format width height known none tt was.ids;
          of = created s id (blank width height known) (new-2d s id format width height none) made was;
        };
        unref = λ s id was. record { ids = kept.unref s id was.ids; of = ended_one s id was };
        bind = λ s rect scanout id resource none some is was. record { ids = was.ids; of = was.of };
        bind_blob = λ s rect scanout id layout format none some is was. record { ids = was.ids; of = was.of };
        unbind = λ s scanout was. record { ids = was.ids; of = was.of };
        flush = λ s rect id was. record { ids = was.ids; of = was.of };
        receive = λ s rect offset id resource none is was. record { ids = kept.receive s rect offset id resource none is was.ids; of = pixels s id resource _ is was };
        attach = λ s id ranges none given was. record {
          ids = kept.attach s id ranges none tt was.ids;
          of = record { live = was.of.live; backed = came (λ q entries. AreInPages count entries (pages_at q share)) id ranges s.backings given was.of.backed; blob = was.of.blob };
        };
        detach = λ s id was. record {
          ids = kept.detach s id was.ids;
          of = record {
            live = was.of.live;
            backed = went (λ q ranges. AreInPages count ranges (pages_at q share)) id s.backings was.ids.rising_backings was.of.backed;
            blob = was.of.blob;
          };
        };
        assign = λ s id was. record { ids = was.ids; of = was.of };
        create_blob = λ s id mem flags size ranges none made given was. record {
          ids = kept.create_blob s id mem flags size ranges none tt tt was.ids;
          of = record {
            live = joined s.resources (insert_entry nat_cmp s.blobs id (record { size = size; entries = ranges })) (
              (apart s was).0,
              came (λ q x. is_some (buffer_at q share) ≡ true) id (record { size = size; entries = ranges }) s.blobs (made (new-blob s id mem flags size ranges none).some) (apart s was).1,
            );
            backed = was.of.backed;
            blob = came (λ q (blob : Blob). AreInPages count blob.entries (pages_at q share)) id (record { size = size; entries = ranges }) s.blobs given was.of.blob;
          };
        };
        context = λ s now was. record { ids = was.ids; of = was.of };
        point = λ s scanout change was. record { ids = was.ids; of = was.of };
      }

pub buffered : (s : State) → IdsOf s → AreOfBuffers s → IsBuffered s.share s.setup.pages s
buffered s ids was = record { ids = ids; of = record { live = was.live; backed = was.backings; blob = was.blobs } }

pub of-buffered : (share : ShareState) (count : ℕ) (s : State) → s.share ≡ share → s.setup.pages ≡ count → IsBuffered share count s → AreOfBuffers s
of-buffered share count s same many is = record {
  live = subst (λ (all : ShareState). (id : ℕ) → has_resource s id ≡ true → is_some (buffer_at id all) ≡ true) (sym same) is.of.live;
  backings = subst (λ (all : ShareState). (id : ℕ) (ranges : List MemEntry) → backing_at id s.backings ≡ Some ranges → AreInPages s.setup.pages ranges (pages_at id all)) (sym same)
      (subst (λ n. (id : ℕ) (ranges : List MemEntry) → backing_at id s.backings ≡ Some ranges → AreInPages n ranges (pages_at id share)) (sym many) is.of.backed);
  blobs = subst (λ (all : ShareState). (id : ℕ) (blob : Blob) → blob_at id s.blobs ≡ Some blob → AreInPages s.setup.pages blob.entries (pages_at id all)) (sym same)
      (subst (λ n. (id : ℕ) (blob : Blob) → blob_at id s.blobs ≡ Some blob → AreInPages n blob.entries (pages_at id share)) (sym many) is.of.blob);
}

-- ---- acts, where resources stay

-- the buffer of each resource stays, with its pages
abbrev Stays : State → ShareState → Type 0
Stays s now = (id : ℕ) → has_resource s id ≡ true → (is_some (buffer_at id now) ≡ true) × (pages_at id now ≡ pages_at id s.share)

pub record IsOfAct (s : State) : Type 0 where
  pub ids : IdsOf s
  pub share : Stand s
  pub of : AreOfBuffers s

found-some : {X : Type 0} (found : Option X) (x : X) → found ≡ Some x → is_some found ≡ true
found-some (Some y) x is = refl
found-some None x is = cc

of-act : (s : State) (now : ShareState) → Stays s now → IsOfAct s
    → ((id : ℕ) → has_resource s id ≡ true → is_some (buffer_at id now) ≡ true)
    × ((id : ℕ) (ranges : List MemEntry) → backing_at id s.backings ≡ Some ranges → AreInPages s.setup.pages ranges (pages_at id now))
    × ((id : ℕ) (blob : Blob) → blob_at id s.blobs ≡ Some blob → AreInPages s.setup.pages blob.entries (pages_at id now))
of-act s now stays was = (
  (λ id there. (stays id there).0),
  (λ id ranges is.
      let known = was.ids.backed id (found-some (backing_at id s.backings) ranges is) in
      let there : has_resource s id ≡ true = right-true (is_some (blob_at id s.blobs)) (is_some (resource_at id s.resources)) known in
      subst (AreInPages s.setup.pages ranges) (sym (stays id there).1) (was.of.backings id ranges is)),
  (λ id blob is. subst (AreInPages s.setup.pages blob.entries) (sym (stays id (first-some (blob_at id s.blobs) (resource_at id s.resources) blob is)).1) (was.of.blobs id blob is)),
)

of-now : (s : State) (memory : Memory) (now : ShareState) → Stays s now → ShareStands now → IsOfAct s → IsOfAct (record s { memory = memory; share = now })
of-now s memory now stays stand was =
    let all = of-act s now stays was in
    record { ids = was.ids; share = stand; of = record { live = all.0; backings = all.1; blobs = all.2 } }

-- one buffer that has no resource's number
stays-other : (s : State) (now : ShareState) (key : ℕ) → ((id : ℕ) → has_resource s id ≡ true → id ≢ key) → ((q : ℕ) → q ≢ key → buffer_at q now ≡ buffer_at q s.share) → IsOfAct s → Stays s now
stays-other s now key none others was id there =
    let same = others id (none id there) in
    (ap is_some same ∙ was.of.live id there, ap pages_in same)

-- one whose holders change
stays-set : (s : State) (now : ShareState) (key : ℕ) (old new : Buffer) → buffer_at key s.share ≡ Some old → buffer_at key now ≡ Some new → new.pages ≡ old.pages
    → ((q : ℕ) → q ≢ key → buffer_at q now ≡ buffer_at q s.share) → IsOfAct s → Stays s now
stays-set s now key old new found is pages others was id there = dite (ℕ_discrete id key)
    (λ same. (
      (ap (λ n. is_some (buffer_at n now)) same ∙ ap is_some is),
      (ap (λ n. pages_at n now) same ∙ ap pages_in is ∙ pages ∙ sym (ap pages_in found) ∙ ap (λ n. pages_at n s.share) (sym same)),
    ))
    (λ other. (ap is_some (others id other) ∙ was.of.live id there, ap pages_in (others id other)))

stays-else : (s : State) (exports : List ℕ) (leases : List (Option ℕ)) (clients : List (ℕ × Bool)) → IsOfAct s → Stays s (record s.share { exports = exports; leases = leases; clients = clients })
stays-else s exports leases clients was id there = (was.of.live id there, refl)

not-none : {X P : Type 0} (found : Option X) → is_some found ≡ true → found ≡ None → P
not-none (Some x) some none = cc
not-none None some none = cc

pub of_acts : ActMoves IsOfAct IsOfAct
of_acts =
    let kept = moves_stand.acts in
    record {
      stay = λ s was. was;
      reserve = λ s client geometry none was.
          let key = s.share.reserved + 1 in
          of-now s _ _
          (stays-other s (with_buffer client geometry (new_pages geometry.bytes s.memory) s.share) key
          (λ id there same. not-none (buffer_at id s.share) (was.of.live id there) (ap (λ n. buffer_at n s.share) same ∙ next-none s.share was.share))
          (new-other client geometry (new_pages geometry.bytes s.memory) s.share) was)
          (kept.reserve s client geometry none was.share) was;
      store = λ s client key offset bytes times none was. of-now s _ s.share (λ id there. (was.of.live id there, refl)) was.share was;
      export = λ s key was. of-now s s.memory _ (stays-else s (s.share.exports ++ key ∷ []) s.share.leases s.share.clients was) (kept.export s key was.share) was;
      import = λ s client token none was.
          let is = may-import token s.share none in
          let key = token_key token s.share in
          of-now s s.memory _
          (stays-set s (imported client key s.share) key is.buffer (imported_buffer client is.buffer) is.found (imported-found client key s.share is.buffer is.found) refl (imported-other client key s.share) was)
          (kept.import s client token none was.share) was;
      release = λ s client key none was.
          let is = may-release client key (shown_at client key s) s.share none in
          of-now s s.memory _
          (stays-set s (released client key s.share) key is.buffer (released_buffer client is.buffer) is.found (released-found client key s.share is.buffer is.found) refl (released-other client key s.share) was)
          (kept.release s client key none was.share) was;
      free = λ s client key none was.
          let is = may-free client key (has_resource s key) s.share none in
          of-now s _ _
          (stays-other s (freed key s.share) key (λ id there same. not-both (has_resource s id) there (ap (has_resource s) same ∙ is.dead)) (freed-other key s.share) was)
          (kept.free s client key none was.share) was;
      take = λ s client scanout none was. of-now s s.memory _ (stays-else s s.share.exports (slice_set s.share.leases scanout (Some client)) s.share.clients was) (kept.take s client scanout none was.share) was;
      drop = λ s client scanout none was. of-now s s.memory _ (stays-else s s.share.exports (slice_set s.share.leases scanout None) s.share.clients was) (kept.drop s client scanout none was.share) was;
      plug = λ s plugs many was. record { ids = was.ids; share = was.share; of = record { live = was.of.live; backings = was.of.backings; blobs = was.of.blobs } };
      leave = λ s client was. of-now s s.memory _ (stays-else s s.share.exports s.share.leases (ended client (entered client s.share)).clients was) (kept.leave s client was.share) was;
    }
