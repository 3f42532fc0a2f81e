-- A journal's text is its pieces, each with its line end.
use Rattle.std.proofs.Common.{◌≡◌, ℕ, ◌+◌, ◌==◌, Bool, true, false, List, [], ◌∷◌, ◌++◌, bit_and, length, codes, decimal, if◌then◌else◌, refl, sym, ap, ◌∙◌, append_assoc}
use Rattle.vg_config.specs.Features.{EDID, RESOURCE_BLOB, RESOURCE_UUID, VIRGL}
use Rattle.vg_text.specs.Text.{numbered}
use Rattle.vg_client_holds.specs.declared.setup.Setup.{Setup}
use Rattle.vg_scanout.specs.declared.scanout.Frame.{Frame}
use Rattle.vg_journal.specs.declared.journal.Journal.{Journal}
use Rattle.vg_journal.specs.Text.{counts_text, display_line, entry_line, frame_text, head_text, host_text, queues_text, text_of, title_text, without_line, without_text}
use Rattle.vg_journal_lines.specs.declared.head.Feature.{Feature}
use Rattle.vg_journal_lines.specs.declared.head.Feature.TheVariants.{Edid, Uuid, Blob, Context}
use Rattle.vg_journal_lines.specs.Versions.{version_of}
use Rattle.vg_journal_lines.specs.Words.{clients_words, end_words, feature_name, frame_words, frames_words, head_of, joined, line_of, memory_words, rings_words, title_words, without_words}
use Rattle.vg_journal_lines.specs.Pieces.{count_pieces, display_pieces, entry_pieces, frame_pieces, head_pieces, host_pieces, numbered_pieces, pieces_of, queues_pieces, whole, without_piece, without_pieces}
use Rattle.vg_journal_lines.proofs.HeadLaws.{text_display, text_host, text_queues, text_title, text_without}
use Rattle.vg_journal_lines.proofs.CountLaws.{text_counts, text_frame}
use Rattle.vg_journal_lines.proofs.EntryLaws.{CommandsAreSaid, text_entry}

pub whole_append : (ps qs : List (List ℕ)) → whole (ps ++ qs) ≡ whole ps ++ whole qs
whole_append [] qs = refl
whole_append (p ∷ ps) qs = ap (λ l. p ++ 10 ∷ l) (whole_append ps qs) ∙ sym (append_assoc p (10 ∷ whole ps) (whole qs))

whole_numbered : {X : Type 0} (text : ℕ → X → List ℕ) (pieces : ℕ → X → List (List ℕ)) → ((n : ℕ) (x : X) → text n x ≡ whole (pieces n x)) → (n : ℕ) (xs : List X) → numbered text n xs ≡ whole (numbered_pieces pieces n xs)
whole_numbered text pieces same n [] = refl
whole_numbered text pieces same n (x ∷ xs) =
    (λ i. same n x i ++ whole_numbered text pieces same (n + 1) xs i) ∙ sym (whole_append (pieces n x) (numbered_pieces pieces (n + 1) xs))

under_test : (b : Bool) (p : List ℕ) → (if b then p ++ 10 ∷ [] else []) ≡ whole (if b then p ∷ [] else [])
under_test true p = refl
under_test false p = refl

one_without : (accepted bit : ℕ) (feature : Feature) → without_line accepted bit (feature_name feature) ≡ whole (without_piece accepted bit feature)
unfolding without_piece
one_without accepted bit feature = text_without accepted bit feature ∙ under_test (bit_and accepted bit == 0) (joined (without_words feature))

four_whole : (a b c d : List (List ℕ)) → whole a ++ whole b ++ whole c ++ whole d ≡ whole (a ++ b ++ c ++ d)
four_whole a b c d =
    (λ i. sym (whole_append a b) i ++ whole c ++ whole d) ∙ (λ i. sym (whole_append (a ++ b) c) i ++ whole d) ∙ sym (whole_append (a ++ b ++ c) d)

whole_without : (accepted : ℕ) → without_text accepted ≡ whole (without_pieces accepted)
unfolding without_text without_pieces
whole_without accepted =
    (λ i. one_without accepted EDID Edid i ++ one_without accepted RESOURCE_UUID Uuid i ++ one_without accepted RESOURCE_BLOB Blob i ++ one_without accepted VIRGL Context i)
    ∙ four_whole (without_piece accepted EDID Edid) (without_piece accepted RESOURCE_UUID Uuid) (without_piece accepted RESOURCE_BLOB Blob) (without_piece accepted VIRGL Context)

head_flat : (title displays pages queues without clients host : List ℕ)
    → title ++ displays ++ codes "memory " ++ pages ++ codes "\n" ++ queues ++ without ++ codes "clients " ++ clients ++ codes "\n" ++ host
    ≡ title ++ displays ++ ((codes "memory " ++ pages ++ codes "\n") ++ queues) ++ without ++ ((codes "clients " ++ clients ++ codes "\n") ++ host)
head_flat title displays pages queues without clients host = simp append_assoc

five_whole : (a b c d e : List (List ℕ)) → whole a ++ whole b ++ whole c ++ whole d ++ whole e ≡ whole (a ++ b ++ c ++ d ++ e)
five_whole a b c d e = ap (λ l. l ++ whole e) (four_whole a b c d) ∙ sym (whole_append (a ++ b ++ c ++ d) e)

-- A line and others behind it.
line_and : (piece : List ℕ) (text : List ℕ) (pieces : List (List ℕ)) → text ≡ whole pieces → (piece ++ codes "\n") ++ text ≡ whole (piece ∷ pieces)
line_and piece text pieces is = append_assoc piece (codes "\n") text ∙ ap (λ l. piece ++ 10 ∷ l) is

whole_head : (setup : Setup) → head_text setup ≡ whole (head_pieces setup)
unfolding head_text
whole_head setup =
    let version = version_of setup.queues in
    head_flat (title_text setup.queues) (numbered display_line 0 setup.displays) (decimal setup.pages) (queues_text setup.queues) (without_text setup.accepted) (decimal setup.clients) (host_text setup.host)
    ∙ (λ i. text_title setup.queues i ++ whole_numbered display_line display_pieces text_display 0 setup.displays i
    ++ line_and (joined (memory_words setup.pages)) (queues_text setup.queues) (queues_pieces version) (text_queues setup.queues) i ++ whole_without setup.accepted i
    ++ line_and (joined (clients_words setup.clients)) (host_text setup.host) (host_pieces setup.host) (text_host setup.host) i)
    ∙ five_whole (joined (title_words version) ∷ []) (numbered_pieces display_pieces 0 setup.displays) (joined (memory_words setup.pages) ∷ queues_pieces version) (without_pieces setup.accepted) (joined (clients_words setup.clients) ∷ host_pieces setup.host)

whole_counts : (control cursor frames : ℕ) → counts_text control cursor frames ≡ whole (count_pieces control cursor frames)
whole_counts control cursor frames =
    text_counts control cursor frames ∙ append_assoc (joined (rings_words (control, cursor))) (10 ∷ []) (line_of (frames_words frames))

whole_frame : (n : ℕ) (frame : Frame) → frame_text n frame ≡ whole (frame_pieces n frame)
whole_frame n frame =
    ap (λ l. l ++ frame.pixels ++ codes "\n") (text_frame n frame) ∙ append_assoc (line_of (frame_words n (head_of frame))) frame.pixels (10 ∷ [])
    ∙ append_assoc (joined (frame_words n (head_of frame))) (10 ∷ []) (frame.pixels ++ 10 ∷ [])

pub text_pieces : CommandsAreSaid → (journal : Journal) → text_of journal ≡ whole (pieces_of journal)
text_pieces commands journal =
    (λ i. whole_head journal.setup i ++ whole_numbered entry_line entry_pieces (text_entry commands) 1 journal.entries i ++ whole_counts journal.control journal.cursor (length journal.frames) i
    ++ whole_numbered frame_text frame_pieces whole_frame 1 journal.frames i ++ codes "end\n")
    ∙ five_whole (head_pieces journal.setup) (numbered_pieces entry_pieces 1 journal.entries) (count_pieces journal.control journal.cursor (length journal.frames)) (numbered_pieces frame_pieces 1 journal.frames) (joined end_words ∷ [])
