mod Chains
mod Entries
