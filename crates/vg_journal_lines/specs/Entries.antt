-- The lines of entries: `N C K act TEXT = REPLY`, and `N C K cmd LANE ORDINAL ROOM SHAPE HEX = HEX` or `.. = fault SHAPE`.
use Rattle.std.specs.Prelude.{ℕ, ◌+◌, ◌≤◌, ◌^◌, if◌then◌else◌, List, [], ◌∷◌, ◌++◌, Option, Some, None, option_map, option_and_then, bytes_eq, codes, decimal}
use Rattle.vg_history.specs.declared.entry.Entry.TheVariants as entries
use Rattle.vg_client_holds.specs.declared.act.Act.{Act}
use Rattle.vg_client_holds.specs.declared.act.ActReply.{ActReply}
use Rattle.vg_device.specs.declared.request.Request.{Request}
use Rattle.vg_device.specs.declared.request.Reply.{Reply}
use Rattle.vg_machine.specs.Entries.{Entry}
use Rattle.vg_line_words.specs.Words.{number_of}
use Rattle.vg_act_lines.specs.Words.{act_words, reply_words}
use Rattle.vg_act_lines.specs.Read.{act_of, both, reply_of}
use Rattle.vg_act_lines.specs.Ranges.{ActInRange, ReplyInRange}
use Rattle.vg_command_lines.specs.Words.{command_reply_words, request_words}
use Rattle.vg_command_lines.specs.Read.{command_reply_of, request_of}
use Rattle.vg_command_lines.specs.Ranges.{CommandReplyInRange, RequestInRange}
use Rattle.vg_journal_lines.specs.Read.{from_one, is_this}
use Rattle.vg_journal_lines.specs.Ranges.{IsCount}

-- The words of entry n.
abbrev pub entry_words : ℕ → Entry → List (List ℕ)
entry_words n (entries.Act client call act reply) =
    decimal n ∷ decimal client ∷ decimal call ∷ codes "act" ∷ (act_words act ++ codes "=" ∷ reply_words reply)
entry_words n (entries.Command client call request reply) =
    decimal n ∷ decimal client ∷ decimal call ∷ codes "cmd" ∷ (request_words request ++ codes "=" ∷ command_reply_words reply)

-- An entry of a journal with so many clients, the host among them.
abbrev pub EntryInRange : ℕ → Entry → Type 0
EntryInRange clients (entries.Act client call act reply) =
    (1 ≤ client) × (client ≤ clients) × IsCount call × ActInRange act × ReplyInRange reply
EntryInRange clients (entries.Command client call request reply) =
    (1 ≤ client) × (client ≤ clients) × IsCount call × RequestInRange request × CommandReplyInRange reply

-- Words on both sides of the first word `=`.
abbrev pub Sides : Type 0
Sides = List (List ℕ) × List (List ℕ)

abbrev pub and_before : List (List ℕ) → Option Sides → Option Sides
and_before front None = None
and_before front (Some both) = Some (front ++ both.0, both.1)

unfoldable pub sides : List (List ℕ) → Option Sides
sides [] = None
sides (word ∷ words) = if bytes_eq word (codes "=") then Some ([], words) else and_before (word ∷ []) (sides words)

-- The client and its own number for the entry, where N is expected.
abbrev pub who_of : ℕ → ℕ → (number client call : List ℕ) → Option (ℕ × ℕ)
who_of n clients number client call =
    if is_this n number then both (from_one (clients + 1) client) (number_of (2 ^ 63) call) else None

abbrev pub act_entry : ℕ × ℕ → Act × ActReply → Entry
act_entry who says = entries.Act who.0 who.1 says.0 says.1

abbrev pub act_in : ℕ × ℕ → Sides → Option Entry
act_in who words = option_map (act_entry who) (both (act_of words.0) (reply_of words.1))

abbrev pub command_entry : ℕ × ℕ → Request × Reply → Entry
command_entry who says = entries.Command who.0 who.1 says.0 says.1

abbrev pub command_in : ℕ × ℕ → Sides → Option Entry
command_in who words = option_map (command_entry who) (both (request_of words.0) (command_reply_of words.1))

abbrev pub entry_in : List ℕ → ℕ × ℕ → Sides → Option Entry
entry_in kind who words =
    if bytes_eq kind (codes "act") then act_in who words
    else if bytes_eq kind (codes "cmd") then command_in who words
    else None

abbrev pub entry_by : List ℕ → (ℕ × ℕ) × Sides → Option Entry
entry_by kind says = entry_in kind says.0 says.1

unfoldable pub entry_of : ℕ → ℕ → List (List ℕ) → Option Entry
entry_of n clients (number ∷ client ∷ call ∷ kind ∷ words) =
    option_and_then (entry_by kind) (both (who_of n clients number client call) (sides words))
entry_of n clients words = None
