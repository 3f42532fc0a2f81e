use Rattle.vg_journal_lines.proofs.HeadLaws.{clients_back, clients_only, plain_clients, text_clients}
use Rattle.vg_journal_lines.proofs.laws.clients_and_their_words.Goals as goal

pub returns : goal.returns
returns c = record { text = text_clients; plain = plain_clients; back = clients_back; only = clients_only }
