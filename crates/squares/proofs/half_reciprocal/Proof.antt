-- `squares::half_reciprocal` meets its contract: what is asked of the code's arms, each with its number, is what `all` shows with the rule's number.
use Prim.Native.Nat.{◌*◌}
use lib.Ieee.{round, to_bits}
use borrow.Fn.Plain.{t_fn_plain}
use Rattle.squares.specs.Squares.{number, largest, near, pattern}
use Rattle.squares.proofs.Arms.{all}
use Rattle.squares.proofs.half_reciprocal.Statement.{statement}
use Rattle.squares.proofs.half_reciprocal.Tie as tie
use Rattle.squares.proofs.half_reciprocal.Reads as reads
use Rattle.squares.proofs.half_reciprocal.Lts as lts

pub half_reciprocal_spec : {M : Type 1} → statement M
unfolding number largest near pattern round to_bits
half_reciprocal_spec =
    tie.close (λ 𝓤 𝓛 𝓣. t_fn_plain 𝓛 𝓣 0 lts.ps lts.r lts.xs lts.m lts.hs lts.body
    (λ κs qs bs. lts.Φ reads.Pre reads.Post)
    (λ κs qs bs bd. lts.typed reads.Pre reads.Post κs qs 𝓛 𝓣 bs bd)
    reads.Pre reads.Post (λ κs qs a good pre bs. all (λ n. pattern 1 (2 * n)) a.0))
