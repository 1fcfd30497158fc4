pub mod KeptEpochs
