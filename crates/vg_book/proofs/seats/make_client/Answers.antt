use Rattle.std.proofs.Common.{arith, ap, ◌∙◌, []}
use Rattle.vg_book.specs.Views.{telling, with_client, client_made}
use Rattle.vg_book.proofs.Looks.{tells_holds}
use Rattle.vg_book.proofs.Cuts.{makes_client}
use Rattle.vg_book.proofs.seats.make_client.Goals as goal

pub compare_exchange_with-requires : goal.compare_exchange_with-requires
compare_exchange_with-requires g c = let t = c.requires.table in (t.0, omega (arith, t.1), tells_holds g.M.Machine _ _ _ _ _)

pub split_seat-requires : goal.split_seat-requires
split_seat-requires g c = let t = c.requires.table in let u = c.compare_exchange_with.ensures in (u.0 ∙ t.0, omega (arith, t.1), makes_client g.M.Machine _ _ _ c.of.result.value (ap (λ m. m.0.is_root) u.2.1 ∙ c.requires.root) (ap (λ m. m.0.told) u.2.1))

pub returns-clause-made : goal.returns-clause-made
returns-clause-made g c = let u = c.compare_exchange_with.ensures.2 in let s = c.split_seat.ensures in
    let e = u.1 ∙ ap (λ h. (telling c.args.seat.now.me.0 u.0 h, c.args.seat.now.me.1)) c.of.ensures in
    (u.0, s.2 ∙ ap (λ m. (with_client m.0, m.1)) e, s.4 ∙ ap (λ m. (client_made m.0, [])) e, u.2)
