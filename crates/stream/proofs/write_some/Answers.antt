-- No failed try gives anything away, and the last one moves what it says.
use Rattle.std.proofs.Common.{rules, ◌≡◌, List, ℕ, Bor, MutBor}
use Rattle.std.specs.Io.KnownBytes.{Keeps}
use Rattle.stream.proofs.Tries.{kept_over}
use Rattle.stream.proofs.write_some.Goals as goal

pub returns : goal.returns
returns g c =
    let tried = c.patiently.ensures in
    let kept =
    kept_over {P = MutBor g.row.W.Denot × Bor (List ℕ)} _
    (λ p q. Keeps (g.W.Write.contents p.0.now) (g.W.Write.contents q.0.now) × (q.1 ≡ p.1) × (q.0.ghost_name ≡ p.0.ghost_name))
    (λ p. search rules) (λ p q e v k t. search rules) tried.0 _ _ tried.3 in
    search (rules, kept, tried.4)
