pub mod TransferFacts
