-- Ids of resources, backings and blobs after every history.
use Rattle.std.proofs.Common.{◌≡◌, ◌≢◌, ℕ, ◌+◌, ◌*◌, ◌==◌, ◌||◌, not, true, false, List, [], ◌∷◌, Option, Some, None, refl, ap, sym, ◌∙◌, arith}
use mathlib.Core.Logic.{dite}
use native.Mathlib.Decide.{ℕ_discrete}
use Rattle.std.specs.Prelude.{is_none, is_some, nat_lt}
use Rattle.std.specs.Ordering.{nat_cmp}
use Rattle.std.specs.Map.{lookup, remove_entry, set_value}
use Rattle.std.specs.BTreeMap.{insert_entry, is_at}
use Rattle.std.proofs.lemmas.Bool.Decides.{nat_tests}
use Rattle.vg_laws.proofs.Options.{none-there}
use Rattle.vg_laws.proofs.Bools.{or-first, or-second, not-false}
use Rattle.vg_formats.specs.declared.entry.MemEntry.{MemEntry}
use Rattle.vg_formats.specs.Formats.{format_of}
use Rattle.vg_resource.specs.declared.resource.Resource.{Resource}
use Rattle.vg_resource.specs.Resource.{blank, pixel_bytes, resource_at}
use Rattle.vg_blob.specs.declared.blobs.Blob.{Blob}
use Rattle.vg_blob.specs.Blobs as blobs
use Rattle.vg_blob.specs.Blobs.{blob_at}
use Rattle.vg_backing.specs.Backing.{are_bad, total}
use Rattle.vg_transfer.specs.Backings.{backing_at}
use Rattle.vg_refusals.specs.Refusals.{refusal_of}
use Rattle.vg_wire.specs.Kinds.{ERR_INVALID_PARAMETER, ERR_INVALID_RESOURCE_ID, ERR_OUT_OF_MEMORY, ERR_UNSPEC}
use Rattle.vg_client_holds.specs.declared.setup.Setup.{Setup}
use Rattle.vg_device.proofs.MapLemmas.{insert-found, insert_other, remove_other, set_itself, set_other}
use Rattle.vg_device.specs.State.{State, is_blob, start}
use Rattle.vg_device.specs.BlobStep.{create_blob_refusals}
use Rattle.vg_device.specs.Step.{attach_2d_refusals, create_2d_refusals}
use Rattle.vg_machine.specs.Entries.{Entry}
use Rattle.vg_machine.specs.Replay.{replay}
use Rattle.vg_linked.specs.Rising.{AreRising}
use Rattle.vg_linked.proofs.EntryLemmas.{remove-gone, rising-insert, rising-remove, rising-set}
use Rattle.vg_linked.proofs.FitLemmas.{none-first, none-rest}
use Rattle.vg_linked.proofs.MoveLemmas.{AllMoves, acts_leave, replay-kept}

-- ---- what a creation that isn't refused tells

not-zero : (id : ℕ) → (id == 0) ≡ false → 0 ≢ id
not-zero id is same = grind (arith, nat_tests)

-- the id isn't 0, and is that of no resource
pub record IsNew (id : ℕ) (s : State) : Type 0 where
  pub some : 0 ≢ id
  pub no_resource : resource_at id s.resources ≡ None
  pub no_blob : blob_at id s.blobs ≡ None

pub new-2d : (s : State) (id format width height : ℕ) → refusal_of (create_2d_refusals s id format width height) ≡ None → IsNew id s
new-2d s id format width height none =
    let used = id == 0 || is_some (resource_at id s.resources) in
    let later = (is_none (format_of format) || (width == 0 || height == 0), ERR_INVALID_PARAMETER) ∷ (nat_lt 134217728 (pixel_bytes s.resources + 4 * width * height), ERR_OUT_OF_MEMORY) ∷ [] in
    let unused : used ≡ false = none-first used ERR_INVALID_RESOURCE_ID later (none-rest (is_blob s id) ERR_INVALID_RESOURCE_ID ((used, ERR_INVALID_RESOURCE_ID) ∷ later) none) in
    record {
      some = not-zero id (or-first (id == 0) (is_some (resource_at id s.resources)) unused);
      no_resource = none-there (resource_at id s.resources) (or-second (id == 0) (is_some (resource_at id s.resources)) unused);
      no_blob = none-there (blob_at id s.blobs) (none-first (is_blob s id) ERR_INVALID_RESOURCE_ID ((used, ERR_INVALID_RESOURCE_ID) ∷ later) none);
    }

pub new-blob : (s : State) (id mem flags size : ℕ) (ranges : List MemEntry) → refusal_of (create_blob_refusals s id mem flags size ranges) ≡ None → IsNew id s
new-blob s id mem flags size ranges none =
    let rest = blobs.create_refusals s.memory id mem flags size ranges s.blobs in
    let later = (not (mem == blobs.BLOB_MEM_GUEST) || (nat_lt blobs.BLOB_FLAGS flags || size == 0), ERR_INVALID_PARAMETER)
    ∷ (are_bad s.memory ranges, ERR_INVALID_PARAMETER) ∷ (nat_lt (total ranges) size, ERR_INVALID_PARAMETER) ∷ []
    in
    let unused : (id == 0 || is_some (blob_at id s.blobs)) ≡ false =
    none-first (id == 0 || is_some (blob_at id s.blobs)) ERR_INVALID_RESOURCE_ID later (none-rest (is_some (resource_at id s.resources)) ERR_INVALID_RESOURCE_ID rest none)
    in
    record {
      some = not-zero id (or-first (id == 0) (is_some (blob_at id s.blobs)) unused);
      no_resource = none-there (resource_at id s.resources) (none-first (is_some (resource_at id s.resources)) ERR_INVALID_RESOURCE_ID rest none);
      no_blob = none-there (blob_at id s.blobs) (or-second (id == 0) (is_some (blob_at id s.blobs)) unused);
    }

attach-known : (s : State) (id : ℕ) (ranges : List MemEntry) → refusal_of (attach_2d_refusals s id ranges) ≡ None → is_some (resource_at id s.resources) ≡ true
attach-known s id ranges none =
    let known = is_some (resource_at id s.resources) in
    let later = (is_some (backing_at id s.backings), ERR_UNSPEC) ∷ (are_bad s.memory ranges, ERR_INVALID_PARAMETER) ∷ [] in
    not-false known (none-first (not known) ERR_INVALID_RESOURCE_ID later (none-rest (is_blob s id) ERR_UNSPEC ((not known, ERR_INVALID_RESOURCE_ID) ∷ later) none))

-- ---- ids

pub record IdsStand (resources : List (ℕ × Resource)) (backings : List (ℕ × List MemEntry)) (blobs : List (ℕ × Blob)) : Type 0 where
  pub rising_resources : AreRising resources
  pub rising_backings : AreRising backings
  pub rising_blobs : AreRising blobs
  pub apart : (id : ℕ) → is_some (blob_at id blobs) ≡ true → resource_at id resources ≡ None
  pub no_resource : resource_at 0 resources ≡ None
  pub no_blob : blob_at 0 blobs ≡ None
  pub backed : (id : ℕ) → is_some (backing_at id backings) ≡ true → is_some (resource_at id resources) ≡ true

clash : {P X : Type 0} (found : Option X) → found ≡ None → is_some found ≡ true → P
clash (Some x) none some = cc
clash None none some = cc

pub some-none : {P X : Type 0} (found : Option X) (x : X) → found ≡ Some x → found ≡ None → P
some-none (Some y) x some none = cc
some-none None x some none = cc

-- a resource of a new id
ids-new : (id : ℕ) (resource : Resource) (s : State) → IsNew id s → IdsStand s.resources s.backings s.blobs → IdsStand (insert_entry nat_cmp s.resources id resource) s.backings s.blobs
ids-new id resource s new was = record {
  rising_resources = rising-insert id resource s.resources was.rising_resources;
  rising_backings = was.rising_backings;
  rising_blobs = was.rising_blobs;
  apart = λ q blob. dite (ℕ_discrete q id)
      (λ same. clash (blob_at q s.blobs) (ap (λ n. blob_at n s.blobs) same ∙ new.no_blob) blob)
      (λ other. insert_other q id resource other s.resources ∙ was.apart q blob);
  no_resource = insert_other 0 id resource new.some s.resources ∙ was.no_resource;
  no_blob = was.no_blob;
  backed = λ q backing. dite (ℕ_discrete q id)
      (λ same. ap (λ n. is_some (resource_at n (insert_entry nat_cmp s.resources id resource))) same ∙ ap is_some (insert-found id resource s.resources))
      (λ other. ap is_some (insert_other q id resource other s.resources) ∙ was.backed q backing);
}

-- a blob of a new id
ids-blob : (id : ℕ) (blob : Blob) (s : State) → IsNew id s → IdsStand s.resources s.backings s.blobs → IdsStand s.resources s.backings (insert_entry nat_cmp s.blobs id blob)
ids-blob id blob s new was = record {
  rising_resources = was.rising_resources;
  rising_backings = was.rising_backings;
  rising_blobs = rising-insert id blob s.blobs was.rising_blobs;
  apart = λ q there. dite (ℕ_discrete q id)
      (λ same. ap (λ n. resource_at n s.resources) same ∙ new.no_resource)
      (λ other. was.apart q (sym (ap is_some (insert_other q id blob other s.blobs)) ∙ there));
  no_resource = was.no_resource;
  no_blob = insert_other 0 id blob new.some s.blobs ∙ was.no_blob;
  backed = was.backed;
}

-- what isn't there stays so
none-removed : {X : Type 0} (q id : ℕ) (es : List (ℕ × X)) → AreRising es → lookup (is_at (nat_cmp q)) es ≡ None → lookup (is_at (nat_cmp q)) (remove_entry (is_at (nat_cmp id)) es) ≡ None
none-removed q id es rising none = dite (ℕ_discrete q id)
    (λ same. ap (λ n. lookup (is_at (nat_cmp n)) (remove_entry (is_at (nat_cmp id)) es)) same ∙ remove-gone id es rising)
    (λ other. remove_other q id other es ∙ none)

-- and what is there afterwards was, and isn't what was taken away
was-there : {X : Type 0} {P : Type 0} (q id : ℕ) (es : List (ℕ × X)) → AreRising es → is_some (lookup (is_at (nat_cmp q)) (remove_entry (is_at (nat_cmp id)) es)) ≡ true
    → (q ≢ id → is_some (lookup (is_at (nat_cmp q)) es) ≡ true → P) → P
was-there q id es rising there gives = dite (ℕ_discrete q id)
    (λ same. clash (lookup (is_at (nat_cmp q)) (remove_entry (is_at (nat_cmp id)) es))
    (ap (λ n. lookup (is_at (nat_cmp n)) (remove_entry (is_at (nat_cmp id)) es)) same ∙ remove-gone id es rising) there)
    (λ other. gives other (sym (ap is_some (remove_other q id other es)) ∙ there))

-- a resource ends
ids-gone : (id : ℕ) (s : State) → IdsStand s.resources s.backings s.blobs
    → IdsStand (remove_entry (is_at (nat_cmp id)) s.resources) (remove_entry (is_at (nat_cmp id)) s.backings) (remove_entry (is_at (nat_cmp id)) s.blobs)
ids-gone id s was = record {
  rising_resources = rising-remove (is_at (nat_cmp id)) s.resources was.rising_resources;
  rising_backings = rising-remove (is_at (nat_cmp id)) s.backings was.rising_backings;
  rising_blobs = rising-remove (is_at (nat_cmp id)) s.blobs was.rising_blobs;
  apart = λ q there. was-there q id s.blobs was.rising_blobs there (λ other before. none-removed q id s.resources was.rising_resources (was.apart q before));
  no_resource = none-removed 0 id s.resources was.rising_resources was.no_resource;
  no_blob = none-removed 0 id s.blobs was.rising_blobs was.no_blob;
  backed = λ q there. was-there q id s.backings was.rising_backings there (λ other before. ap is_some (remove_other q id other s.resources) ∙ was.backed q before);
}

-- a resource's pixels change
ids-pixels : (id : ℕ) (old new : Resource) (s : State) → resource_at id s.resources ≡ Some old → IdsStand s.resources s.backings s.blobs
    → IdsStand (set_value (is_at (nat_cmp id)) s.resources new) s.backings s.blobs
ids-pixels id old new s found was = record {
  rising_resources = rising-set (is_at (nat_cmp id)) new s.resources was.rising_resources;
  rising_backings = was.rising_backings;
  rising_blobs = was.rising_blobs;
  apart = λ q blob. dite (ℕ_discrete q id)
      (λ same. some-none (resource_at q s.resources) old (ap (λ n. resource_at n s.resources) same ∙ found) (was.apart q blob))
      (λ other. set_other q id new other s.resources ∙ was.apart q blob);
  no_resource = dite (ℕ_discrete 0 id)
      (λ same. some-none (resource_at 0 s.resources) old (ap (λ n. resource_at n s.resources) same ∙ found) was.no_resource)
      (λ other. set_other 0 id new other s.resources ∙ was.no_resource);
  no_blob = was.no_blob;
  backed = λ q backing. dite (ℕ_discrete q id)
      (λ same. ap (λ n. is_some (resource_at n (set_value (is_at (nat_cmp id)) s.resources new))) same ∙ ap is_some (set_itself id old new s.resources found))
      (λ other. ap is_some (set_other q id new other s.resources) ∙ was.backed q backing);
}

-- a backing comes, and one goes
ids-attached : (id : ℕ) (ranges : List MemEntry) (s : State) → is_some (resource_at id s.resources) ≡ true → IdsStand s.resources s.backings s.blobs
    → IdsStand s.resources (insert_entry nat_cmp s.backings id ranges) s.blobs
ids-attached id ranges s known was = record {
  rising_resources = was.rising_resources;
  rising_backings = rising-insert id ranges s.backings was.rising_backings;
  rising_blobs = was.rising_blobs;
  apart = was.apart;
  no_resource = was.no_resource;
  no_blob = was.no_blob;
  backed = λ q backing. dite (ℕ_discrete q id)
      (λ same. ap (λ n. is_some (resource_at n s.resources)) same ∙ known)
      (λ other. was.backed q (sym (ap is_some (insert_other q id ranges other s.backings)) ∙ backing));
}

ids-detached : (id : ℕ) (s : State) → IdsStand s.resources s.backings s.blobs → IdsStand s.resources (remove_entry (is_at (nat_cmp id)) s.backings) s.blobs
ids-detached id s was = record {
  rising_resources = was.rising_resources;
  rising_backings = rising-remove (is_at (nat_cmp id)) s.backings was.rising_backings;
  rising_blobs = was.rising_blobs;
  apart = was.apart;
  no_resource = was.no_resource;
  no_blob = was.no_blob;
  backed = λ q there. was-there q id s.backings was.rising_backings there (λ other before. was.backed q before);
}

abbrev pub IdsOf : State → Type 0
IdsOf s = IdsStand s.resources s.backings s.blobs

pub ids_moves : AllMoves IdsOf IdsOf
ids_moves = record {
  count = λ s was. was;
  commands = record {
    stay = λ s was. was;
    create = λ s id format width height known none made was. ids-new id (blank width height known) s (new-2d s id format width height none) was;
    unref = λ s id was. ids-gone id s was;
    bind = λ s rect scanout id resource none some is was. was;
    bind_blob = λ s rect scanout id layout format none some is was. was;
    unbind = λ s scanout was. was;
    flush = λ s rect id was. was;
    receive = λ s rect offset id resource none is was. ids-pixels id resource _ s is was;
    attach = λ s id ranges none made was. ids-attached id ranges s (attach-known s id ranges none) was;
    detach = λ s id was. ids-detached id s was;
    assign = λ s id was. was;
    create_blob = λ s id mem flags size ranges none made given was. ids-blob id (record { size = size; entries = ranges }) s (new-blob s id mem flags size ranges none) was;
    context = λ s now was. was;
    point = λ s scanout change was. was;
  };
  acts = acts_leave IdsOf (λ s memory share plugs many was. was);
}

pub ids-stand : (setup : Setup) (H : List Entry) → IdsOf (replay setup H)
ids-stand setup H = replay-kept IdsOf IdsOf ids_moves (start setup) H
    (record { rising_resources = tt; rising_backings = tt; rising_blobs = tt; apart = λ id there. refl; no_resource = refl; no_blob = refl; backed = λ id there. cc })
