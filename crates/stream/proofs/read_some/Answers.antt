-- No failed try takes anything, and the last one moves what it says.
use Rattle.std.proofs.Common.{rules, ◌≡◌, length, List, ℕ, MutBor}
use Rattle.std.specs.Io.KnownBytes.{Keeps}
use Rattle.stream.proofs.Tries.{kept_over}
use Rattle.stream.proofs.read_some.Goals as goal

pub returns : goal.returns
returns g c =
    let tried = c.patiently.ensures in
    let kept =
    kept_over {P = MutBor g.row.R.Denot × MutBor (List ℕ)} _
    (λ p q. Keeps (g.R.Read.remaining p.0.now) (g.R.Read.remaining q.0.now) × (length q.1.now ≡ length p.1.now) × (q.0.ghost_name ≡ p.0.ghost_name) × (q.1.ghost_name ≡ p.1.ghost_name))
    (λ p. search rules) (λ p q e v k t. search rules) tried.0 _ _ tried.3 in
    search (rules, kept, tried.4)
