-- What is asked about a data byte.
use Rattle.std.specs.Prelude.{Bool, ℕ}
use Rattle.bus.specs.declared.Space.{Space}
use Rattle.write_reasons.specs.declared.WriteAsked.{WriteAsked}
use Rattle.write_reasons.specs.declared.WriteAsked.TheVariants.{DataByte}

-- byte k of a leg, the session open or not, the leg spoiled or not
abbrev pub asked_byte : Bool → Bool → Space → ℕ → ℕ → ℕ → WriteAsked
asked_byte session spoiled space first k x =
    DataByte (record { session = session; spoiled = spoiled; space = space; first = first; k = k; x = x })
